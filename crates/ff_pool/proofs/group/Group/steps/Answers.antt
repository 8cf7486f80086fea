use Rattle.std.proofs.Common.{◌≡◌, ◌∙◌, All, true, sym, subst, arith}
use Rattle.ff_value.specs.Spelled.{IsWellSpelledInput}
use Rattle.ff_pool.specs.Heads.{IsStepped, MayCount, head_works}
use Rattle.ff_pool.proofs.Slicing.{on_err, step_spelled}
use Rattle.ff_pool.proofs.group.Group.steps.Goals as goal

pub returns-in_err-step-clause-most : goal.returns-in_err-step-clause-most
returns-in_err-step-clause-most g c = on_err c.from_residual.result (MayCount.at_once c.in_err-step.ensures.most)

pub loop-step-init : goal.loop-step-init
loop-step-init g c =
    let made = c.in_ok-step.ensures in
    record {
      done = IsStepped.once c.step.new.self c.step.new.outs.items c.step.new.turns made.done made.outputs made.count;
      spelled = subst (λ h. All IsWellSpelledInput h.inbox) (sym made.done) (step_spelled c.args.self.now c.requires);
      turns_later = made.turns_later;
      later = made.later;
    }

pub returns-in_err-step-2-clause-most : goal.returns-in_err-step-2-clause-most
returns-in_err-step-2-clause-most g c =
    on_err c.from_residual-in_err-step-2.result
    (MayCount.later c.loop-step.self c.loop-step.outs.items c.loop-step.turns c.loop-step.invariant.done c.in_err-step-2.ensures.most)

pub loop-step-preserved : goal.loop-step-preserved
loop-step-preserved g c =
    let works : c.has_work.result ≡ true = c.if-not-has_work.false in
    let busy : head_works c.loop-step.self ≡ true = sym c.has_work.ensures ∙ works in
    let at = c.loop-step.invariant in
    let made = c.in_ok-step-2.ensures in
    record {
      done =
          IsStepped.again c.loop-step.self c.step-in-loop-step.new.self c.loop-step.outs.items c.step-in-loop-step.new.outs.items c.loop-step.turns c.step-in-loop-step.new.turns
          at.done busy made.done made.outputs made.count;
      spelled = subst (λ h. All IsWellSpelledInput h.inbox) (sym made.done) (step_spelled c.loop-step.self at.spelled);
      turns_later = omega (arith, made.turns_later, at.turns_later);
      later = omega (arith, made.later, at.later);
    }
