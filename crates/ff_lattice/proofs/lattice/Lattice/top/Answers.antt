use Rattle.std.proofs.Common.{arith}
use Rattle.ff_lattice.proofs.Words.{top-is}
use Rattle.ff_lattice.proofs.lattice.Lattice.top.Goals as goal

pub returns-clause-value : goal.returns-clause-value
returns-clause-value c =
    top-is c.args.self.now c.size-number-end.ensures.valid c.loop-number.greatest.0 c.loop-number.invariant.within (λ l in_l. c.loop-number.invariant.greatest l (omega arith))
