use Rattle.std.proofs.Common.{ap, subst, ◌∙◌}
use Rattle.ff_machine.specs.State.{State, empty}
use Rattle.ff_machine.specs.Valid.{IsState}
use Rattle.ff_core.specs.declared.browser.Browser.TheInside.{Inside}
use Rattle.ff_core.proofs.Holding.{new_valid, at_its_own, turned_valid}
use Rattle.ff_core.proofs.browser.BrowserReactor.turn.Goals as goal

pub invariant_of-self : goal.invariant_of-self
invariant_of-self g c = at_its_own c.args.self.now.budget c.turn.new.self (turned_valid c.self.inside.parts c.args.self.now c.turn.new.self c.self.view_is c.self.invariant (c.in-Ok.ensures.step.0))

pub invariant_of-self-in-Err : goal.invariant_of-self-in-Err
invariant_of-self-in-Err g c =
    let new = c.reset.ensures ∙ ap (λ (b : Inside). empty b.parts.budget) c.self-inside.view_is in
    at_its_own c.self.inside.parts.budget c.reset.new.self (new_valid c.self.inside.parts.budget c.reset.new.self new)

pub returns-in-Ok-clause-budget : goal.returns-in-Ok-clause-budget
returns-in-Ok-clause-budget g c = (turned_valid c.self.inside.parts c.args.self.now c.turn.new.self c.self.view_is c.self.invariant (c.in-Ok.ensures.step.0)).budget_is

pub returns-in-Ok-clause-valid : goal.returns-in-Ok-clause-valid
returns-in-Ok-clause-valid g c = turned_valid c.self.inside.parts c.args.self.now c.turn.new.self c.self.view_is c.self.invariant (c.in-Ok.ensures.step.0)

pub returns-in-Err-clause-valid : goal.returns-in-Err-clause-valid
returns-in-Err-clause-valid g c =
    let new = c.reset.ensures ∙ ap (λ (b : Inside). empty b.parts.budget) c.self-inside.view_is in
    subst (λ (t : State). IsState t.budget c.reset.new.self) c.self.view_is (new_valid c.self.inside.parts.budget c.reset.new.self new)
