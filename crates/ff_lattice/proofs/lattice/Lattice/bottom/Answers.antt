use Rattle.std.proofs.Common.{arith}
use Rattle.ff_lattice.proofs.Words.{bottom-is}
use Rattle.ff_lattice.proofs.lattice.Lattice.bottom.Goals as goal

pub returns-clause-value : goal.returns-clause-value
returns-clause-value c =
    bottom-is c.args.self.now c.size-number-end.ensures.valid c.loop-number.least.0 c.loop-number.invariant.within (λ l in_l. c.loop-number.invariant.least l (omega arith))
