use Rattle.std.proofs.Common.{ap}
use Rattle.std.proofs.lemmas.Bool.{eqb-true, eq-eqb}
use Rattle.ff_lattice.specs.LevelBits.{levels_of}
use Rattle.ff_lattice.proofs.LevelSets.{same_bits}
use Rattle.ff_lattice.proofs.level_set.LevelSetPartialEq.eq.Goals as goal

pub returns : goal.returns
returns c = rw (← c.self.view_is, ← c.other.view_is) (λ t. ap levels_of (eqb-true _ _ t), λ same. eq-eqb _ _ (same_bits _ _ c.self.invariant c.other.invariant same))
