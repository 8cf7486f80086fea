use Rattle.std.proofs.Common.{ℕ, List, sym, subst, ◌∙◌, Ok, Err}
use Rattle.std.proofs.lemmas.Result.{err_from_is_err_and}
use Rattle.ff_policy.specs.Assignment.{Assignment}
use Rattle.ff_policy.specs.Reading.{Checks, bad_domain, bad_fuel, unordered, whole}
use Rattle.ff_policy.specs.declared.fault.PolicyFault.TheVariants.{ContentBelowPresence}
use Rattle.ff_policy.proofs.Fuel.{fuel_out, fueled_from}
use Rattle.ff_policy.proofs.policy.Policy.of_draft.Goals as goal

pub returns-in_err-check_keys-clause-fault : goal.returns-in_err-check_keys-clause-fault
returns-in_err-check_keys-clause-fault c =
    let p = err_from_is_err_and c.from_residual.result c.from_residual.ensures.1 in
    rw (p.1, p.2) (λ other. bad_domain c.in_err-check_keys.field-0.0 (c.in_err-check_keys.ensures.fault other))

pub returns-then-not-has_fuel-clause-fault : goal.returns-then-not-has_fuel-clause-fault
returns-then-not-has_fuel-clause-fault c = λ _. bad_fuel c.in_ok-check_keys.ensures.done (fuel_out c.args.draft.fuel c.has_fuel.result c.has_fuel.ensures c.if-not-has_fuel.true)

pub returns-in-None-clause-found : goal.returns-in-None-clause-found
returns-in-None-clause-found c =
    let fueled = fueled_from c.args.draft c.has_fuel.result c.in_ok-check_keys.ensures.done c.has_fuel.ensures c.if-not-has_fuel.false in
    subst (λ (policy : Assignment). Checks c.args.draft (Ok policy)) (sym c.whole.ensures) (whole fueled (sym c.in-None.ensures))

pub returns-in_ok-of_str-in-Some-clause-fault : goal.returns-in_ok-of_str-in-Some-clause-fault
returns-in_ok-of_str-in-Some-clause-fault c =
    let fueled = fueled_from c.args.draft c.has_fuel.result c.in_ok-check_keys.ensures.done c.has_fuel.ensures c.if-not-has_fuel.false in
    λ _. subst (λ (word : List ℕ). Checks c.args.draft (Err (ContentBelowPresence word))) (sym (c.in_ok-of_str-in-Some.ensures ∙ c.word.ensures)) (unordered c.in-Some.kind fueled (sym c.in-Some.ensures))
