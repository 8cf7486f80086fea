use Rattle.ff_lattice.proofs.LevelSets.{IsLevelSet-levels_where, ones-levels_of}
use Rattle.ff_lattice.proofs.level_set.LevelSet.len.Goals as goal

pub returns-clause-valid : goal.returns-clause-valid
returns-clause-valid c = rw (← c.self.view_is) (IsLevelSet-levels_where _)

pub returns-clause-count : goal.returns-clause-count
returns-clause-count c = rw (← c.self.view_is) (ones-levels_of c.self.inside.bits c.self.invariant)
