use Rattle.std.proofs.Common.{◌<◌, ◌∷◌, ◌++◌, [], ℕ, nat_eq, filter_map, take, sym, subst, ◌∙◌, arith}
use Rattle.std.specs.List.{IsDistinct}
use Rattle.std.specs.Cmp.{nat_eq_equiv}
use Rattle.std.specs.BTreeSet.{BTreeSet}
use Rattle.std.proofs.lemmas.Map.Keys.{IsDistinct-push}
use Rattle.ff_tree.specs.Spelled.{IsWellSpelledExpr}
use Rattle.ff_machine.specs.Alone.{IsEntry, waiting}
use Rattle.ff_windows.proofs.Distinct.{Has, none_distinct, has_none, has_more, new_one, old_one, entry_more, no_slot_more, slot_more, slot_new}
use Rattle.ff_windows.proofs.checking.is_queue.Goals.{in-Ready+in_ok-spelled-in-Ready+else-not-spelled, in-Wait+else-slot-next+in-Ok-true}
use Rattle.ff_windows.proofs.checking.is_queue.Goals as goal

pub loop-entry-init : goal.loop-entry-init
loop-entry-init c = record { entries = λ k d less. absurd (omega (arith, less)); differ = none_distinct; kept = has_none c.new-slots.result c.new-slots.ensures.empty }

pub returns-in-Ok-false : goal.returns-in-Ok-false
returns-in-Ok-false c =
    let slots = filter_map waiting (take c.loop-entry.entry-index c.args.queue.now) in (
      λ h. cc,
      λ are. absurd (old_one c.loop-entry.slots slots c.in-Wait.slot c.loop-entry.invariant.kept (sym c.in-Ok-false.field-0-test ∙ c.in-Ok-false.ensures.added)
          (slot_new c.args.queue.now c.loop-entry.entry-index c.entry-item.result c.loop-entry-test.true c.entry-item.is c.in-Wait.slot c.in-Wait.is are.differ)),
    )

pub loop-entry-preserved : goal.loop-entry-preserved
loop-entry-preserved c =
    let queue = c.args.queue.now in
    let i = c.loop-entry.entry-index in
    let x = c.entry-item.result in
    let slots = filter_map waiting (take i queue) in
    elim c.match-entry.branch [
      | in-Ready+in_ok-spelled-in-Ready+else-not-spelled w ↦
          let same = no_slot_more queue i x c.loop-entry-test.true c.entry-item.is w.in-Ready.body w.in-Ready.is in
          record {
            entries = entry_more queue i x c.loop-entry-test.true c.entry-item.is c.args.next c.loop-entry.invariant.entries (subst (IsEntry c.args.next) (sym w.in-Ready.is) (subst IsWellSpelledExpr w.get.ensures (w.in_ok-spelled-in-Ready.ensures.0 w.if-not-spelled.false)));
            differ = subst (IsDistinct nat_eq) (sym same) c.loop-entry.invariant.differ;
            kept = subst (Has c.match-entry.slots) (sym same) (subst (λ (set : BTreeSet ℕ). Has set slots) (sym w.slots-is) c.loop-entry.invariant.kept);
          }
      | in-Wait+else-slot-next+in-Ok-true w ↦
          let more = slot_more queue i x c.loop-entry-test.true c.entry-item.is w.in-Wait.slot w.in-Wait.is in
          let below : w.in-Wait.slot < c.args.next = omega (arith, w.if-slot-next.false) in
          let none = new_one c.loop-entry.slots slots w.in-Wait.slot c.loop-entry.invariant.kept (sym w.in-Ok-true.field-0-test ∙ w.in-Ok-true.ensures.added) in
          record {
            entries = entry_more queue i x c.loop-entry-test.true c.entry-item.is c.args.next c.loop-entry.invariant.entries (subst (IsEntry c.args.next) (sym w.in-Wait.is) below);
            differ = subst (IsDistinct nat_eq) (sym more) (IsDistinct-push nat_eq_equiv slots w.in-Wait.slot c.loop-entry.invariant.differ none);
            kept = subst (Has c.match-entry.slots) (sym more) (subst (λ (set : BTreeSet ℕ). Has set (slots ++ w.in-Wait.slot ∷ [])) (sym w.slots-is) (has_more c.loop-entry.slots w.insert.new.self slots w.in-Wait.slot c.loop-entry.invariant.kept w.in-Ok-true.ensures.updates));
          }
    ]
