use Rattle.ff_lattice.proofs.LevelSets.{levels_of-set}
use Rattle.ff_lattice.proofs.level_set.LevelSet.with.Goals as goal

pub returns : goal.returns
returns c = rw (← c.self.view_is) (levels_of-set c.self.inside.bits c.args.l.0 c.requires)
