use Rattle.std.proofs.Common.{T, refl, arith, sym, subst, ◌∙◌}
use Rattle.std.specs.List.{All}
use Rattle.std.proofs.lemmas.List.{take_all}
use Rattle.std.proofs.lemmas.List.Elements.{All-more, All-get_or}
use Rattle.std.proofs.lemmas.Option.{get_or_from_slice_get, slice_get_within}
use Rattle.ff_machine.specs.References.{DstRefers}
use Rattle.ff_machine.specs.declared.records.Pending.{Pending}
use Rattle.ff_records.specs.Counted.{made}
use Rattle.ff_net.proofs.referring.asks_refer.Goals as goal

pub loop-i-init : goal.loop-i-init
loop-i-init c = λ k d less. absurd (omega (arith, less))

pub returns-then-not-dst_refers : goal.returns-then-not-dst_refers
returns-then-not-dst_refers c = (
  λ h. cc,
  λ all.
      let asks = c.args.asks.now in
      let x = c.at.result.now in
      let within = slice_get_within asks c.loop-i.i x c.at.ensures in
      let here = subst (λ (p : Pending). DstRefers (made c.args.counts) p.dst) (get_or_from_slice_get asks c.loop-i.i x x c.at.ensures ∙ sym c.pending.ensures)
      (All-get_or (λ (p : Pending). DstRefers (made c.args.counts) p.dst) asks c.loop-i.i x within all) in
      absurd (subst T (sym (c.dst_refers.ensures.1 here) ∙ c.if-not-dst_refers.true) tt),
)

pub loop-i-preserved : goal.loop-i-preserved
loop-i-preserved c =
    let asks = c.args.asks.now in
    let x = c.at.result.now in
    let within = slice_get_within asks c.loop-i.i x c.at.ensures in
    let here = subst (λ (p : Pending). DstRefers (made c.args.counts) p.dst) (c.pending.ensures ∙ sym (get_or_from_slice_get asks c.loop-i.i x x c.at.ensures)) (c.dst_refers.ensures.0 c.if-not-dst_refers.false) in
    All-more (λ (p : Pending). DstRefers (made c.args.counts) p.dst) asks c.loop-i.i x within c.loop-i.invariant here

pub returns : goal.returns
returns c = (
  λ h. subst (All (λ (p : Pending). DstRefers (made c.args.counts) p.dst)) (take_all c.loop-i.i c.args.asks.now (omega (arith, c.loop-i-test.false, c.len-i-end.ensures))) c.loop-i.invariant,
  λ h. refl,
)
