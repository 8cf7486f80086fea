use Rattle.std.proofs.Common.{◌+◌, cond, Some, None, List, ◌∷◌, [], ◌++◌, take, sym, ap, subst, ◌∙◌, arith}
use Rattle.std.proofs.lemmas.List.{take_all, take_more}
use Rattle.ff_machine.specs.Alone.{AreActs}
use Rattle.ff_machine.proofs.Empty.{empty_valid}
use Rattle.ff_records.specs.Records.{act_recs}
use Rattle.ff_records.specs.Restored.{Restores}
use Rattle.ff_records.specs.declared.records.ActRec.{ActRec}
use Rattle.ff_acts.proofs.Restored.{first_valid, first_recs}
use Rattle.ff_acts.proofs.acts.Acts.restore.Goals as goal

pub loop-rec-init : goal.loop-rec-init
loop-rec-init g c = record {
  valid = subst AreActs (sym c.new-acts.ensures) empty_valid.windows.acts;
  recs = ap act_recs c.new-acts.ensures;
  later = omega arith;
}

pub returns-then-not-added-clause-value : goal.returns-then-not-added-clause-value
returns-then-not-added-clause-value g c v are has =
    let recs = c.as_slice-recs.result.now in
    let i = c.loop-rec.rec-index in
    let x = c.rec-item.result in
    let none = subst (λ b. Restores AreActs act_recs (act_recs c.loop-rec.acts ++ x ∷ []) (cond b (Some c.add_recorded.new.acts) None)) c.if-not-added.true c.in_ok-added.ensures.value in
    none (take (i + 1) v) (first_valid v (i + 1) are) (first_recs v recs i x (has ∙ sym c.as_slice-recs.ensures) c.loop-rec-test.true c.rec-item.is ∙ ap (λ (rs : List ActRec). rs ++ x ∷ []) (sym c.loop-rec.invariant.recs))

pub loop-rec-preserved : goal.loop-rec-preserved
loop-rec-preserved g c =
    let recs = c.as_slice-recs.result.now in
    let i = c.loop-rec.rec-index in
    let x = c.rec-item.result in
    let some = subst (λ b. Restores AreActs act_recs (act_recs c.loop-rec.acts ++ x ∷ []) (cond b (Some c.add_recorded.new.acts) None)) c.if-not-added.false c.in_ok-added.ensures.value in
    record {
      valid = some.0;
      recs = some.1 ∙ ap (λ (rs : List ActRec). rs ++ x ∷ []) c.loop-rec.invariant.recs ∙ ap (λ y. take i recs ++ y ∷ []) c.rec-item.is ∙ sym (take_more recs i x c.loop-rec-test.true);
      later = omega (arith, c.loop-rec.invariant.later, c.in_ok-added.ensures.later);
    }

pub returns-clause-value : goal.returns-clause-value
returns-clause-value g c = (
  c.loop-rec.invariant.valid,
  c.loop-rec.invariant.recs ∙ take_all c.loop-rec.rec-index c.as_slice-recs.result.now (omega (arith, c.loop-rec-test.false)) ∙ c.as_slice-recs.ensures,
)
