use Rattle.std.proofs.lemmas.Result.{err_from_is_err_and}
use Rattle.serde_json.specs.View.{view}
use Rattle.ff_policy.specs.Reading.{bad_member}
use Rattle.ff_policy.proofs.Steps.{says_ok, says_err}
use Rattle.ff_policy.proofs.policy.Policy.of_value.Goals as goal

pub returns-in_err-plan-clause-fault : goal.returns-in_err-plan-clause-fault
returns-in_err-plan-clause-fault c =
    let p = err_from_is_err_and c.from_residual.result c.from_residual.ensures.1 in
    rw (p.1, p.2) (λ other. bad_member c.in_err-plan.field-0.0 (c.in_err-plan.ensures.fault other))

pub returns-clause-found : goal.returns-clause-found
returns-clause-found c = says_ok (view c.args.value.now) c.in_ok-plan.plan c.in_ok-plan.ensures.found c.of_plan.result c.of_plan.ensures.found

pub returns-clause-fault : goal.returns-clause-fault
returns-clause-fault c = says_err (view c.args.value.now) c.in_ok-plan.plan c.in_ok-plan.ensures.found c.of_plan.result c.of_plan.ensures.fault
