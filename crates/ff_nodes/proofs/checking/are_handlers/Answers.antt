use Rattle.std.proofs.Common.{T, refl, arith, sym, subst, ◌∙◌}
use Rattle.std.specs.List.{All}
use Rattle.std.proofs.lemmas.List.{take_all}
use Rattle.std.proofs.lemmas.List.Elements.{All-more, All-get_or}
use Rattle.ff_machine.specs.Alone.{IsHandler}
use Rattle.ff_nodes.proofs.checking.are_handlers.Goals as goal

pub returns-then-not-valid : goal.returns-then-not-valid
returns-then-not-valid c = (
  λ h. cc,
  λ all.
      let here : IsHandler c.code-item.result = subst IsHandler (sym c.code-item.is) (All-get_or IsHandler c.args.codes.now c.loop-code.code-index c.code-item.result c.loop-code-test.true all) in
      absurd (subst T (sym (c.in_ok-valid.ensures.1 (let p = here in (p.spelled, p.takes_one))) ∙ c.if-not-valid.true) tt),
)

pub loop-code-preserved : goal.loop-code-preserved
loop-code-preserved c = All-more IsHandler c.args.codes.now c.loop-code.code-index c.code-item.result c.loop-code-test.true c.loop-code.invariant (subst IsHandler c.code-item.is (let p = c.in_ok-valid.ensures.0 c.if-not-valid.false in record { spelled = p.0; takes_one = p.1 }))

pub returns : goal.returns
returns c = (λ h. subst (All IsHandler) (take_all c.loop-code.code-index c.args.codes.now (omega (arith, c.loop-code-test.false))) c.loop-code.invariant, λ h. refl)
