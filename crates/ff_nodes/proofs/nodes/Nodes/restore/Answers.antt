use Rattle.std.proofs.Common.{◌≡◌, ◌<◌, ℕ, T, Option, Some, List, length, sym, ap, subst, ◌∙◌, arith}
use Rattle.ff_value.specs.declared.ids.NodeId.{NodeId}
use Rattle.ff_machine.specs.declared.limits.TheConstants.{MOST_TREE_DEPTH}
use Rattle.ff_machine.specs.Nodes.{depth}
use Rattle.ff_machine.specs.Alone.{AreNodes, AreTrees}
use Rattle.ff_records.specs.Records.{node_recs}
use Rattle.ff_nodes.specs.Cells.{nodes_of}
use Rattle.ff_nodes.specs.Recorded.{AreDepths, AreParents, HaveDepths, NoNodes, bare, made, parent_at}
use Rattle.ff_nodes.proofs.Restored.{made_recs, made_valid, lives, trees, not_deeper, recs_valid, recs_few, depths_are, ends_all}
use Rattle.ff_nodes.proofs.nodes.Nodes.restore.Goals as goal

pub returns-then-recs-clause-value : goal.returns-then-recs-clause-value
returns-then-recs-clause-value g c v are has = absurd (omega (arith, c.if-recs.true, recs_few c.as_slice-recs.result.now v are (has ∙ sym c.as_slice-recs.ensures)))

pub returns-then-not-valid-clause-value : goal.returns-then-not-valid-clause-value
returns-then-not-valid-clause-value g c v are has =
    subst T (sym (c.in_ok-valid.ensures.1 (recs_valid c.as_slice-recs.result.now v are (has ∙ sym c.as_slice-recs.ensures))) ∙ c.if-not-valid.true) tt

pub returns-in_default-clause-value : goal.returns-in_default-clause-value
returns-in_default-clause-value g c v are has =
    let none : NoNodes c.as_slice-recs.result.now = rw c.in_default.is at c.in_ok-parents.ensures in
    none v are (has ∙ sym c.as_slice-recs.ensures)

pub returns-in_default-2-clause-value : goal.returns-in_default-2-clause-value
returns-in_default-2-clause-value g c v are has =
    let recs = c.as_slice-recs.result.now in
    let ps = c.in-Some.parents.items in
    let par : AreParents recs (length recs) ps = rw c.in-Some.is at c.in_ok-parents.ensures in
    let deep : (n : NodeId) × (MOST_TREE_DEPTH < depth (bare c.deref.result.now) n) = rw c.in_default-2.is at c.in_ok-depths.ensures in
    let far = subst (λ (qs : List (Option NodeId)). MOST_TREE_DEPTH < depth (bare qs) deep.0) c.deref.ensures.value deep.1 in
    absurd (omega (arith, far, not_deeper recs ps par v are (has ∙ sym c.as_slice-recs.ensures) deep.0))

pub depths_of-requires : goal.depths_of-requires
depths_of-requires g c =
    let recs = c.as_slice-recs.result.now in
    let ps = c.in-Some.parents.items in
    let par : AreParents recs (length recs) ps = rw c.in-Some.is at c.in_ok-parents.ensures in
    record { lives = subst (λ (qs : List (Option NodeId)). (k : ℕ) (p : NodeId) → parent_at qs k ≡ Some p → p.0 < length qs) (sym c.deref.ensures.value) (lives recs ps par) }

pub raise_all-requires-clause-trees : goal.raise_all-requires-clause-trees
raise_all-requires-clause-trees g c =
    let recs = c.as_slice-recs.result.now in
    let ps = c.in-Some.parents.items in
    let par : AreParents recs (length recs) ps = rw c.in-Some.is at c.in_ok-parents.ensures in
    let have : HaveDepths c.deref.result.now (length c.deref.result.now) c.in-Some-2.depths.items = rw c.in-Some-2.is at c.in_ok-depths.ensures in
    let depths = subst (λ (qs : List (Option NodeId)). HaveDepths qs (length qs) c.in-Some-2.depths.items) c.deref.ensures.value have in
    let nodes = c.in_ok-cells.ensures.nodes ∙ ap (made recs) c.deref-2.ensures.value in
    subst AreTrees (sym nodes) (trees recs ps par (ends_all ps c.in-Some-2.depths.items depths))

pub raise_all-requires-clause-depths : goal.raise_all-requires-clause-depths
raise_all-requires-clause-depths g c =
    let recs = c.as_slice-recs.result.now in
    let ps = c.in-Some.parents.items in
    let par : AreParents recs (length recs) ps = rw c.in-Some.is at c.in_ok-parents.ensures in
    let have : HaveDepths c.deref.result.now (length c.deref.result.now) c.in-Some-2.depths.items = rw c.in-Some-2.is at c.in_ok-depths.ensures in
    let depths = subst (λ (qs : List (Option NodeId)). HaveDepths qs (length qs) c.in-Some-2.depths.items) c.deref.ensures.value have in
    let nodes = c.in_ok-cells.ensures.nodes ∙ ap (made recs) c.deref-2.ensures.value in
    subst (AreDepths (nodes_of c.in_ok-cells.cells)) (sym c.deref-3.ensures.value) (depths_are recs ps c.in-Some-2.depths.items (nodes_of c.in_ok-cells.cells) par depths nodes)

pub invariant_of-result : goal.invariant_of-result
invariant_of-result g c =
    let recs = c.as_slice-recs.result.now in
    let ps = c.in-Some.parents.items in
    let par : AreParents recs (length recs) ps = rw c.in-Some.is at c.in_ok-parents.ensures in
    let have : HaveDepths c.deref.result.now (length c.deref.result.now) c.in-Some-2.depths.items = rw c.in-Some-2.is at c.in_ok-depths.ensures in
    let depths = subst (λ (qs : List (Option NodeId)). HaveDepths qs (length qs) c.in-Some-2.depths.items) c.deref.ensures.value have in
    let nodes = c.in_ok-cells.ensures.nodes ∙ ap (made recs) c.deref-2.ensures.value in
    let valid = made_valid recs ps par (c.in_ok-valid.ensures.0 c.if-not-valid.false) (ends_all ps c.in-Some-2.depths.items depths) (omega (arith, c.if-recs.false)) in
    record { nodes = subst AreNodes (sym (c.in_ok-raise_all.ensures.nodes ∙ nodes)) valid; marks = c.in_ok-raise_all.ensures.marks }

pub returns-clause-value : goal.returns-clause-value
returns-clause-value g c =
    let recs = c.as_slice-recs.result.now in
    let ps = c.in-Some.parents.items in
    let par : AreParents recs (length recs) ps = rw c.in-Some.is at c.in_ok-parents.ensures in
    let have : HaveDepths c.deref.result.now (length c.deref.result.now) c.in-Some-2.depths.items = rw c.in-Some-2.is at c.in_ok-depths.ensures in
    let depths = subst (λ (qs : List (Option NodeId)). HaveDepths qs (length qs) c.in-Some-2.depths.items) c.deref.ensures.value have in
    let nodes = c.in_ok-cells.ensures.nodes ∙ ap (made recs) c.deref-2.ensures.value in
    let valid = made_valid recs ps par (c.in_ok-valid.ensures.0 c.if-not-valid.false) (ends_all ps c.in-Some-2.depths.items depths) (omega (arith, c.if-recs.false)) in (
      subst AreNodes (sym (c.in_ok-raise_all.ensures.nodes ∙ nodes)) valid,
      ap node_recs (c.in_ok-raise_all.ensures.nodes ∙ nodes) ∙ made_recs recs ps par.count ∙ c.as_slice-recs.ensures,
    )
