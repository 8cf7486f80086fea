use Rattle.ff_lattice.proofs.LevelSets.{levels_of-or}
use Rattle.ff_lattice.proofs.level_set.LevelSet.either.Goals as goal

pub returns : goal.returns
returns c = rw (← c.self.view_is, ← c.other.view_is) (levels_of-or c.self.inside.bits c.other.inside.bits)
