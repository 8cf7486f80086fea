use Rattle.std.proofs.Common.{T, refl, arith, sym, subst, ◌∙◌}
use Rattle.std.specs.List.{All}
use Rattle.std.proofs.lemmas.List.{take_all}
use Rattle.std.proofs.lemmas.List.Elements.{All-more, All-get_or}
use Rattle.std.proofs.lemmas.Option.{get_or_from_slice_get, slice_get_within}
use Rattle.ff_machine.specs.References.{DstRefers}
use Rattle.ff_machine.specs.declared.records.Pending.{Pending}
use Rattle.ff_records.specs.Counted.{made}
use Rattle.ff_net.proofs.AskLists.{Row}
use Rattle.ff_net.proofs.referring.rows_refer.Goals as goal

pub loop-i-init : goal.loop-i-init
loop-i-init c = λ k d less. absurd (omega (arith, less))

pub returns-then-not-asks_refer : goal.returns-then-not-asks_refer
returns-then-not-asks_refer c = (
  λ h. cc,
  λ all.
      let rows = c.args.rows.now in
      let x = c.at.result.now in
      let here : All (λ (p : Pending). DstRefers (made c.args.counts) p.dst) (x.1) = subst (λ (e : Row). All (λ (p : Pending). DstRefers (made c.args.counts) p.dst) (e.1)) (get_or_from_slice_get rows c.loop-i.i x x c.at.ensures)
      (All-get_or (λ (e : Row). All (λ (p : Pending). DstRefers (made c.args.counts) p.dst) (e.1)) rows c.loop-i.i x (slice_get_within rows c.loop-i.i x c.at.ensures) all) in
      let asks = subst (All (λ (p : Pending). DstRefers (made c.args.counts) p.dst)) (sym c.asks.ensures) here in
      absurd (subst T (sym (c.asks_refer.ensures.1 asks) ∙ c.if-not-asks_refer.true) tt),
)

pub loop-i-preserved : goal.loop-i-preserved
loop-i-preserved c =
    let rows = c.args.rows.now in
    let x = c.at.result.now in
    let asks = subst (All (λ (p : Pending). DstRefers (made c.args.counts) p.dst)) c.asks.ensures (c.asks_refer.ensures.0 c.if-not-asks_refer.false) in
    let here = subst (λ (e : Row). All (λ (p : Pending). DstRefers (made c.args.counts) p.dst) (e.1)) (sym (get_or_from_slice_get rows c.loop-i.i x x c.at.ensures)) asks in
    All-more (λ (e : Row). All (λ (p : Pending). DstRefers (made c.args.counts) p.dst) (e.1)) rows c.loop-i.i x (slice_get_within rows c.loop-i.i x c.at.ensures) c.loop-i.invariant here

pub returns : goal.returns
returns c = (
  λ h. subst (All (λ (e : Row). All (λ (p : Pending). DstRefers (made c.args.counts) p.dst) (e.1))) (take_all c.loop-i.i c.args.rows.now (omega (arith, c.loop-i-test.false, c.len-i-end.ensures))) c.loop-i.invariant,
  λ h. refl,
)
