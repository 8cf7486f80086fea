use Rattle.std.proofs.Common.{None, T, refl, arith, sym, subst, ◌∙◌}
use Rattle.std.specs.List.{All}
use Rattle.std.proofs.lemmas.List.{take_all}
use Rattle.std.proofs.lemmas.List.Elements.{All-more, All-get_or}
use Rattle.ff_machine.specs.Alone.{IsNode}
use Rattle.ff_nodes.specs.Recorded.{node_of}
use Rattle.ff_nodes.proofs.checking.are_nodes.Goals as goal

pub returns-then-not-valid : goal.returns-then-not-valid
returns-then-not-valid c = (
  λ h. cc,
  λ all.
      let here : IsNode (node_of c.rec-item.result None) = subst (λ rec. IsNode (node_of rec None)) (sym c.rec-item.is) (All-get_or (λ rec. IsNode (node_of rec None)) c.args.recs.now c.loop-rec.rec-index c.rec-item.result c.loop-rec-test.true all) in
      absurd (subst T (sym (c.in_ok-valid.ensures.1 here) ∙ c.if-not-valid.true) tt),
)

pub loop-rec-preserved : goal.loop-rec-preserved
loop-rec-preserved c = All-more (λ rec. IsNode (node_of rec None)) c.args.recs.now c.loop-rec.rec-index c.rec-item.result c.loop-rec-test.true c.loop-rec.invariant (subst (λ rec. IsNode (node_of rec None)) c.rec-item.is (c.in_ok-valid.ensures.0 c.if-not-valid.false))

pub returns : goal.returns
returns c = (λ h. subst (All (λ rec. IsNode (node_of rec None))) (take_all c.loop-rec.rec-index c.args.recs.now (omega (arith, c.loop-rec-test.false))) c.loop-rec.invariant, λ h. refl)
