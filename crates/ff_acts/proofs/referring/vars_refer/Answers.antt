use Rattle.std.proofs.Common.{T, refl, arith, sym, subst, ◌∙◌}
use Rattle.std.specs.List.{All}
use Rattle.std.proofs.lemmas.List.{take_all}
use Rattle.std.proofs.lemmas.List.Elements.{All-more, All-get_or}
use Rattle.std.proofs.lemmas.Option.{get_or_from_slice_get, slice_get_within}
use Rattle.ff_machine.specs.References.{ValRefers}
use Rattle.ff_records.specs.Counted.{made}
use Rattle.ff_acts.specs.declared.cells.VarCell.{VarCell}
use Rattle.ff_acts.proofs.referring.vars_refer.Goals as goal

pub loop-i-init : goal.loop-i-init
loop-i-init c = λ k d less. absurd (omega (arith, less))

pub returns-then-not-value_refers : goal.returns-then-not-value_refers
returns-then-not-value_refers c = (
  λ h. cc,
  λ all.
      let vars = c.args.vars.now in
      let x = c.cell_at.result.now in
      let within = slice_get_within vars c.loop-i.i x c.cell_at.ensures in
      let here = subst (λ (v : VarCell). ValRefers (made c.args.counts) v.value) (get_or_from_slice_get vars c.loop-i.i x x c.cell_at.ensures)
      (All-get_or (λ (v : VarCell). ValRefers (made c.args.counts) v.value) vars c.loop-i.i x within all) in
      absurd (subst T (sym (c.value_refers.ensures.1 (subst (ValRefers (made c.args.counts)) (sym c.value.ensures) here)) ∙ c.if-not-value_refers.true) tt),
)

pub loop-i-preserved : goal.loop-i-preserved
loop-i-preserved c =
    let vars = c.args.vars.now in
    let x = c.cell_at.result.now in
    let within = slice_get_within vars c.loop-i.i x c.cell_at.ensures in
    let here = subst (λ (v : VarCell). ValRefers (made c.args.counts) v.value) (sym (get_or_from_slice_get vars c.loop-i.i x x c.cell_at.ensures)) (subst (ValRefers (made c.args.counts)) c.value.ensures (c.value_refers.ensures.0 c.if-not-value_refers.false)) in
    All-more (λ (v : VarCell). ValRefers (made c.args.counts) v.value) vars c.loop-i.i x within c.loop-i.invariant here

pub returns : goal.returns
returns c = (
  λ h. subst (All (λ (v : VarCell). ValRefers (made c.args.counts) v.value)) (take_all c.loop-i.i c.args.vars.now (omega (arith, c.loop-i-test.false, c.len-i-end.ensures))) c.loop-i.invariant,
  λ h. refl,
)
