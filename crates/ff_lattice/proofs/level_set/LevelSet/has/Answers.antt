use Rattle.ff_lattice.proofs.LevelSets.{test-bit}
use Rattle.ff_lattice.proofs.level_set.LevelSet.has.Goals as goal

pub returns : goal.returns
returns c = rw (← c.self.view_is) (test-bit c.self.inside.bits c.args.l.0 c.requires)
