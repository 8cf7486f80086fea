use Rattle.ff_lattice.proofs.LevelSets.{levels_of-zero}
use Rattle.ff_lattice.proofs.level_set.LevelSet.empty.Goals as goal

pub returns : goal.returns
returns c = levels_of-zero
