use Rattle.std.proofs.Common.{◌≡◌, ◌≢◌, true, false, Option, is_some, length, ℤ, to_z, of_z, to_z-of_z, w64, sym, ap, ◌∙◌, arith, rules}
use Rattle.ff_value.specs.declared.ids.NodeId.{NodeId}
use Rattle.ff_value.specs.declared.ids.PageId.{PageId}
use Rattle.ff_machine.specs.Shapes.{page_of, may_have_children}
use Rattle.ff_machine.specs.Nodes.{Node, node_at, children, parent, root, place_of}
use Rattle.ff_machine.proofs.Depths.{depth_top}
use Rattle.ff_nodes.proofs.Faults.{parent_kind, child_kind, child_range, inside_range, place_range, deep_limit, no_fault, no_parent}
use Rattle.ff_nodes.proofs.nodes.Nodes.place_for.Goals as goal

pub returns-then-not-may_have_children-clause-answer : goal.returns-then-not-may_have_children-clause-answer
returns-then-not-may_have_children-clause-answer c =
    let all = c.args.self.now in
    let is_may : may_have_children (node_at all c.args.parent).shape ≡ c.may_have_children.result = sym (c.may_have_children.ensures ∙ ap (λ (m : Node). may_have_children m.shape) c.at-over.ensures.value) in
    parent_kind all c.args.parent c.args.child c.args.at (is_may ∙ first_of (cc, search rules, grind arith))

pub returns-then-is_some-clause-answer : goal.returns-then-is_some-clause-answer
returns-then-is_some-clause-answer c =
    let all = c.args.self.now in
    let is_may : may_have_children (node_at all c.args.parent).shape ≡ c.may_have_children.result = sym (c.may_have_children.ensures ∙ ap (λ (m : Node). may_have_children m.shape) c.at-over.ensures.value) in
    let may : may_have_children (node_at all c.args.parent).shape ≡ true = is_may ∙ first_of (cc, search rules, grind arith) in
    let page : is_some (page_of (node_at all c.args.child).shape) ≡ true = ap (λ (o : Option PageId). is_some o) (sym (c.page.ensures ∙ ap (λ (m : Node). page_of m.shape) c.at-under.ensures.value)) ∙ first_of (cc, search rules, grind arith) in
    child_kind all c.args.parent c.args.child c.args.at may page

pub returns-then-is_some-2-clause-answer : goal.returns-then-is_some-2-clause-answer
returns-then-is_some-2-clause-answer c =
    let all = c.args.self.now in
    let is_may : may_have_children (node_at all c.args.parent).shape ≡ c.may_have_children.result = sym (c.may_have_children.ensures ∙ ap (λ (m : Node). may_have_children m.shape) c.at-over.ensures.value) in
    let may : may_have_children (node_at all c.args.parent).shape ≡ true = is_may ∙ first_of (cc, search rules, grind arith) in
    let page : is_some (page_of (node_at all c.args.child).shape) ≡ false = ap (λ (o : Option PageId). is_some o) (sym (c.page.ensures ∙ ap (λ (m : Node). page_of m.shape) c.at-under.ensures.value)) ∙ first_of (cc, search rules, grind arith) in
    let has : is_some (parent all c.args.child) ≡ true = ap (λ (o : Option NodeId). is_some o) (sym (c.parent.ensures ∙ ap (λ (m : Node). m.parent) c.at-under.ensures.value)) ∙ first_of (cc, search rules, grind arith) in
    child_range all c.args.parent c.args.child c.args.at may page has

pub returns-then-root_of-child-clause-answer : goal.returns-then-root_of-child-clause-answer
returns-then-root_of-child-clause-answer c =
    let all = c.args.self.now in
    let is_may : may_have_children (node_at all c.args.parent).shape ≡ c.may_have_children.result = sym (c.may_have_children.ensures ∙ ap (λ (m : Node). may_have_children m.shape) c.at-over.ensures.value) in
    let may : may_have_children (node_at all c.args.parent).shape ≡ true = is_may ∙ first_of (cc, search rules, grind arith) in
    let page : is_some (page_of (node_at all c.args.child).shape) ≡ false = ap (λ (o : Option PageId). is_some o) (sym (c.page.ensures ∙ ap (λ (m : Node). page_of m.shape) c.at-under.ensures.value)) ∙ first_of (cc, search rules, grind arith) in
    let has : is_some (parent all c.args.child) ≡ false = ap (λ (o : Option NodeId). is_some o) (sym (c.parent.ensures ∙ ap (λ (m : Node). m.parent) c.at-under.ensures.value)) ∙ first_of (cc, search rules, grind arith) in
    let top : c.root_of.result.0 ≡ (root all c.args.parent).0 = ap (λ (n : NodeId). n.0) c.root_of.ensures.value in
    inside_range all c.args.parent c.args.child c.args.at may page has (sym top ∙ c.if-root_of-child.true)

pub returns-in_default-clause-answer : goal.returns-in_default-clause-answer
returns-in_default-clause-answer c =
    let all = c.args.self.now in
    let is_may : may_have_children (node_at all c.args.parent).shape ≡ c.may_have_children.result = sym (c.may_have_children.ensures ∙ ap (λ (m : Node). may_have_children m.shape) c.at-over.ensures.value) in
    let may : may_have_children (node_at all c.args.parent).shape ≡ true = is_may ∙ first_of (cc, search rules, grind arith) in
    let page : is_some (page_of (node_at all c.args.child).shape) ≡ false = ap (λ (o : Option PageId). is_some o) (sym (c.page.ensures ∙ ap (λ (m : Node). page_of m.shape) c.at-under.ensures.value)) ∙ first_of (cc, search rules, grind arith) in
    let has : is_some (parent all c.args.child) ≡ false = ap (λ (o : Option NodeId). is_some o) (sym (c.parent.ensures ∙ ap (λ (m : Node). m.parent) c.at-under.ensures.value)) ∙ first_of (cc, search rules, grind arith) in
    let top : c.root_of.result.0 ≡ (root all c.args.parent).0 = ap (λ (n : NodeId). n.0) c.root_of.ensures.value in
    let apart : (root all c.args.parent).0 ≢ c.args.child.0 = omega (arith, top, c.if-root_of-child.false) in
    let same : to_z w64 (of_z w64 c.args.at) ≡ c.args.at = to_z-of_z c.ranges.at in
    let count : c.len.result ≡ length (children all c.args.parent) = c.len.ensures ∙ ap length (c.children.ensures ∙ ap (λ (m : Node). m.children) c.at-over.ensures.value) in
    place_range all c.args.parent c.args.child c.args.at may page has apart (ap (place_of c.args.at) (sym count) ∙ ap (λ (k : ℤ). place_of k c.len.result) (sym same) ∙ sym c.in_default.ensures.value)

pub height-requires-clause-depth : goal.height-requires-clause-depth
height-requires-clause-depth c =
    let all = c.args.self.now in
    let has : is_some (parent all c.args.child) ≡ false = ap (λ (o : Option NodeId). is_some o) (sym (c.parent.ensures ∙ ap (λ (m : Node). m.parent) c.at-under.ensures.value)) ∙ first_of (cc, search rules, grind arith) in
    sym (depth_top all c.args.child (no_parent (parent all c.args.child) has))

pub returns-then-depth_of-height-ge-MOST_TREE_DEPTH-clause-answer : goal.returns-then-depth_of-height-ge-MOST_TREE_DEPTH-clause-answer
returns-then-depth_of-height-ge-MOST_TREE_DEPTH-clause-answer c =
    let all = c.args.self.now in
    let is_may : may_have_children (node_at all c.args.parent).shape ≡ c.may_have_children.result = sym (c.may_have_children.ensures ∙ ap (λ (m : Node). may_have_children m.shape) c.at-over.ensures.value) in
    let may : may_have_children (node_at all c.args.parent).shape ≡ true = is_may ∙ first_of (cc, search rules, grind arith) in
    let page : is_some (page_of (node_at all c.args.child).shape) ≡ false = ap (λ (o : Option PageId). is_some o) (sym (c.page.ensures ∙ ap (λ (m : Node). page_of m.shape) c.at-under.ensures.value)) ∙ first_of (cc, search rules, grind arith) in
    let has : is_some (parent all c.args.child) ≡ false = ap (λ (o : Option NodeId). is_some o) (sym (c.parent.ensures ∙ ap (λ (m : Node). m.parent) c.at-under.ensures.value)) ∙ first_of (cc, search rules, grind arith) in
    let top : c.root_of.result.0 ≡ (root all c.args.parent).0 = ap (λ (n : NodeId). n.0) c.root_of.ensures.value in
    let apart : (root all c.args.parent).0 ≢ c.args.child.0 = omega (arith, top, c.if-root_of-child.false) in
    let same : to_z w64 (of_z w64 c.args.at) ≡ c.args.at = to_z-of_z c.ranges.at in
    let count : c.len.result ≡ length (children all c.args.parent) = c.len.ensures ∙ ap length (c.children.ensures ∙ ap (λ (m : Node). m.children) c.at-over.ensures.value) in
    deep_limit all c.args.parent c.args.child c.args.at may page has apart c.in-Some.place (ap (place_of c.args.at) (sym count) ∙ ap (λ (k : ℤ). place_of k c.len.result) (sym same) ∙ sym c.in-Some.ensures.value) (omega (arith, c.depth_of.ensures.value, c.height.ensures.value, c.if-depth_of-height-ge-MOST_TREE_DEPTH.true))

pub returns-clause-answer : goal.returns-clause-answer
returns-clause-answer c =
    let all = c.args.self.now in
    let is_may : may_have_children (node_at all c.args.parent).shape ≡ c.may_have_children.result = sym (c.may_have_children.ensures ∙ ap (λ (m : Node). may_have_children m.shape) c.at-over.ensures.value) in
    let may : may_have_children (node_at all c.args.parent).shape ≡ true = is_may ∙ first_of (cc, search rules, grind arith) in
    let page : is_some (page_of (node_at all c.args.child).shape) ≡ false = ap (λ (o : Option PageId). is_some o) (sym (c.page.ensures ∙ ap (λ (m : Node). page_of m.shape) c.at-under.ensures.value)) ∙ first_of (cc, search rules, grind arith) in
    let has : is_some (parent all c.args.child) ≡ false = ap (λ (o : Option NodeId). is_some o) (sym (c.parent.ensures ∙ ap (λ (m : Node). m.parent) c.at-under.ensures.value)) ∙ first_of (cc, search rules, grind arith) in
    let top : c.root_of.result.0 ≡ (root all c.args.parent).0 = ap (λ (n : NodeId). n.0) c.root_of.ensures.value in
    let apart : (root all c.args.parent).0 ≢ c.args.child.0 = omega (arith, top, c.if-root_of-child.false) in
    let same : to_z w64 (of_z w64 c.args.at) ≡ c.args.at = to_z-of_z c.ranges.at in
    let count : c.len.result ≡ length (children all c.args.parent) = c.len.ensures ∙ ap length (c.children.ensures ∙ ap (λ (m : Node). m.children) c.at-over.ensures.value) in
    no_fault all c.args.parent c.args.child c.args.at may page has apart c.in-Some.place (ap (place_of c.args.at) (sym count) ∙ ap (λ (k : ℤ). place_of k c.len.result) (sym same) ∙ sym c.in-Some.ensures.value) (omega (arith, c.depth_of.ensures.value, c.height.ensures.value, c.if-depth_of-height-ge-MOST_TREE_DEPTH.false))
