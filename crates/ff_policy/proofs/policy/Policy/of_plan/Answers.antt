use Rattle.std.proofs.lemmas.Result.{err_from_is_err_and}
use Rattle.ff_policy.specs.Reading.{no_lattice}
use Rattle.ff_policy.proofs.Steps.{orders_ok, orders_err}
use Rattle.ff_policy.proofs.policy.Policy.of_plan.Goals as goal

pub returns-in_err-lattice-clause-fault : goal.returns-in_err-lattice-clause-fault
returns-in_err-lattice-clause-fault c =
    let p = err_from_is_err_and c.from_residual.result c.from_residual.ensures.1 in
    rw (p.1, p.2) (λ other. no_lattice c.in_err-lattice.field-0.0 (c.in_err-lattice.ensures.fault other))

pub of_names-requires : goal.of_names-requires
of_names-requires c = c.in_ok-lattice.ensures.found.valid

pub returns-clause-found : goal.returns-clause-found
returns-clause-found c = orders_ok c.args.plan.now c.in_ok-lattice.lattice c.in_ok-lattice.ensures.found c.of_names.result c.of_names.ensures.found

pub returns-clause-fault : goal.returns-clause-fault
returns-clause-fault c = orders_err c.args.plan.now c.in_ok-lattice.lattice c.in_ok-lattice.ensures.found c.of_names.result c.of_names.ensures.fault
