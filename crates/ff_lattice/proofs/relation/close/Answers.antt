use Rattle.ff_lattice.proofs.Closure.{ClosedBelow-none, ClosedBelow-more}
use Rattle.ff_lattice.proofs.relation.close.Goals as goal

pub loop-number-init : goal.loop-number-init
loop-number-init c = ClosedBelow-none c.args.rows.now c.requires

pub loop-number-preserved : goal.loop-number-preserved
loop-number-preserved c = ClosedBelow-more c.loop-number.number c.args.rows.now c.loop-number.rows c.pass.new.rows c.loop-number.invariant c.pass.ensures
