use Rattle.std.proofs.lemmas.Result.{err_from_is_err_and}
use Rattle.ff_lattice.proofs.numbering.numbered.Goals as goal

pub returns-in_err-levels-clause-fault : goal.returns-in_err-levels-clause-fault
returns-in_err-levels-clause-fault c =
    let p = err_from_is_err_and c.from_residual.result c.from_residual.ensures.1 in
    rw (p.1, p.2) (λ named. c.in_err-levels.ensures.fault named c.args.below.now)
