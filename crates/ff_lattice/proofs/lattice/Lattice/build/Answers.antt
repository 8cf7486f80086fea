use Rattle.std.proofs.Common.{Err}
use Rattle.std.proofs.lemmas.Result.{err_from_is_err_and}
use Rattle.ff_lattice.proofs.Faults.{accepts_from, only_from}
use Rattle.ff_lattice.proofs.lattice.Lattice.build.Goals as goal

pub returns-in_err-check_names-clause-fault : goal.returns-in_err-check_names-clause-fault
returns-in_err-check_names-clause-fault c =
    let p = err_from_is_err_and c.from_residual.result c.from_residual.ensures.1 in
    rw (p.1, p.2) (λ _. c.in_err-check_names.ensures.fault c.args.below.now)

pub returns-in_err-check_names-clause-only : goal.returns-in_err-check_names-clause-only
returns-in_err-check_names-clause-only c =
    let p = err_from_is_err_and c.from_residual.result c.from_residual.ensures.1 in
    rw (p.1, p.2) (accepts_from c.args.names.now c.args.below.now (Err c.in_err-check_names.field-0.0) (λ _. c.in_err-check_names.ensures.fault c.args.below.now))

pub returns-in_err-check_names-clause-exact : goal.returns-in_err-check_names-clause-exact
returns-in_err-check_names-clause-exact c =
    let p = err_from_is_err_and c.from_residual.result c.from_residual.ensures.1 in
    rw (p.1, p.2) (only_from c.args.names.now c.args.below.now (Err c.in_err-check_names.field-0.0) tt (λ _. c.in_err-check_names.ensures.fault c.args.below.now))

pub returns-clause-only : goal.returns-clause-only
returns-clause-only c = accepts_from c.args.names.now c.args.below.now c.of_named.result c.of_named.ensures.fault

pub returns-clause-exact : goal.returns-clause-exact
returns-clause-exact c = only_from c.args.names.now c.args.below.now c.of_named.result c.of_named.ensures.found c.of_named.ensures.fault
