use Rattle.std.proofs.Common.{◌≡◌, ℕ, true, List, [], ◌∷◌, length, slice_get, sym, ap, ◌∙◌, arith}
use Rattle.std.specs.Str.{bytes_eq}
use Rattle.ff_value.specs.declared.ids.NodeId.{NodeId}
use Rattle.ff_machine.specs.Kinds.{kind_word}
use Rattle.ff_machine.specs.Shapes.{kind_of}
use Rattle.ff_machine.specs.Nodes.{Node, node_at, children}
use Rattle.ff_nodes.proofs.Rest.{kind_from}
use Rattle.ff_nodes.proofs.Searching.{get_after}
use Rattle.ff_nodes.proofs.Turns.{kind_here, kind_below, deeper, lives, found_in_next, found_after_next, count_next}
use Rattle.ff_nodes.proofs.nodes.Nodes.+nth_from.Goals as goal
use Rattle.ff_nodes.proofs.nodes.Nodes.+nth_from.Goals.{then-is_of_kind+else-k-eq0, else-is_of_kind}

pub returns-then-k-eq0-clause-found : goal.returns-then-k-eq0-clause-found
returns-then-k-eq0-clause-found t c =
    let all = c.args.self.now in
    let word = kind_word c.args.kind in
    let is : bytes_eq (kind_word (kind_of (node_at all c.args.root).shape)) word ≡ true = sym (c.is_of_kind.ensures ∙ ap (λ (m : Node). bytes_eq (kind_word (kind_of m.shape)) word) c.at-node.ensures.value) ∙ c.if-is_of_kind.true in
    ap (λ (l : List NodeId). slice_get l c.args.k) (kind_here all c.at-node.ensures.valid.trees c.args.root word is)
    ∙ ap (λ (k : ℕ). slice_get (c.args.root ∷ kind_from all word (children all c.args.root)) k) c.if-k-eq0.true

pub loop-child-init : goal.loop-child-init
loop-child-init t c =
    let all = c.args.self.now in
    let trees = c.at-node.ensures.valid.trees in
    let word = kind_word c.args.kind in
    let rest = kind_from all word (children all c.args.root) in
    let test = sym (c.is_of_kind.ensures ∙ ap (λ (m : Node). bytes_eq (kind_word (kind_of m.shape)) word) c.at-node.ensures.value) in
    elim c.if-is_of_kind.branch [
      | then-is_of_kind+else-k-eq0 w ↦
          let here = kind_here all trees c.args.root word (test ∙ w.if-is_of_kind.true) in
          let count = ap length here in
          record {
            found = ap (λ (l : List NodeId). slice_get l c.args.k) here ∙ get_after (c.args.root ∷ []) rest c.args.k c.if-is_of_kind.left (omega arith);
            passed = omega (arith, count);
          }
      | else-is_of_kind w ↦
          let below = kind_below all trees c.args.root word (test ∙ w.if-is_of_kind.false) in
          let count = ap length below in
          record {
            found = ap (λ (l : List NodeId). slice_get l c.args.k) below ∙ ap (λ (k : ℕ). slice_get rest k) (sym w.left-is);
            passed = omega (arith, count);
          }
    ]

pub nth_from-requires : goal.nth_from-requires
nth_from-requires t c =
    let all = c.args.self.now in
    let trees = c.at-node.ensures.valid.trees in
    let items = c.as_slice-child-items.result.now in
    let lent : items ≡ children all c.args.root = c.as_slice-child-items.ensures ∙ c.children.ensures ∙ ap (λ (m : Node). m.children) c.at-node.ensures.value in
    (omega (arith, deeper all trees c.args.root items lent c.loop-child.child-index c.loop-child-test.true, trees.ends c.args.root), lives all trees c.args.root items lent c.loop-child.child-index c.loop-child-test.true)

pub returns-in-Ok-clause-found : goal.returns-in-Ok-clause-found
returns-in-Ok-clause-found t c =
    let all = c.args.self.now in
    let items = c.as_slice-child-items.result.now in
    let lent : items ≡ children all c.args.root = c.as_slice-child-items.ensures ∙ c.children.ensures ∙ ap (λ (m : Node). m.children) c.at-node.ensures.value in
    c.loop-child.invariant.found
    ∙ found_in_next all c.at-node.ensures.valid.trees c.args.root items lent c.loop-child.child-index c.loop-child-test.true (kind_word c.args.kind) c.loop-child.left c.in-Ok.found c.in-Ok.ensures.found

pub loop-child-preserved : goal.loop-child-preserved
loop-child-preserved t c =
    let all = c.args.self.now in
    let trees = c.at-node.ensures.valid.trees in
    let word = kind_word c.args.kind in
    let items = c.as_slice-child-items.result.now in
    let lent : items ≡ children all c.args.root = c.as_slice-child-items.ensures ∙ c.children.ensures ∙ ap (λ (m : Node). m.children) c.at-node.ensures.value in
    let count = count_next all trees c.args.root items lent c.loop-child.child-index c.loop-child-test.true word in
    record {
      found = c.loop-child.invariant.found ∙ found_after_next all trees c.args.root items lent c.loop-child.child-index c.loop-child-test.true word c.loop-child.left c.in-Err.rest c.in-Err.ensures.passed;
      passed = omega (arith, count, c.loop-child.invariant.passed, c.in-Err.ensures.passed);
    }
