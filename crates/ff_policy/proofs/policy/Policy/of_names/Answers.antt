use Rattle.std.proofs.lemmas.Result.{err_from_is_err_and}
use Rattle.ff_policy.specs.Reading.{unknown}
use Rattle.ff_policy.proofs.Drafts.{assigned-is_draft}
use Rattle.ff_policy.proofs.Steps.{names_ok, names_err}
use Rattle.ff_policy.proofs.policy.Policy.of_names.Goals as goal

pub returns-in_err-draft-clause-fault : goal.returns-in_err-draft-clause-fault
returns-in_err-draft-clause-fault c =
    let p = err_from_is_err_and c.from_residual.result c.from_residual.ensures.1 in
    rw (p.1, p.2) (λ other. unknown c.in_err-draft.field-0.0 (c.in_err-draft.ensures.fault other))

pub of_draft-requires : goal.of_draft-requires
of_draft-requires c = assigned-is_draft c.args.lattice c.args.plan.now c.in_ok-draft.draft c.requires c.in_ok-draft.ensures.rising c.in_ok-draft.ensures.found

pub returns-clause-found : goal.returns-clause-found
returns-clause-found c = names_ok c.args.lattice c.args.plan.now c.in_ok-draft.draft c.in_ok-draft.ensures.found c.of_draft.result c.of_draft.ensures.found

pub returns-clause-fault : goal.returns-clause-fault
returns-clause-fault c = names_err c.args.lattice c.args.plan.now c.in_ok-draft.draft c.in_ok-draft.ensures.found c.of_draft.result c.of_draft.ensures.fault
