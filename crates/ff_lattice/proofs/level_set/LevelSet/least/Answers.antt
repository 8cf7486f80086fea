use Rattle.std.proofs.Common.{ap, ◌∙◌, refl, arith}
use Rattle.std.proofs.lemmas.Bool.{true≢false}
use Rattle.ff_lattice.specs.LevelBits.{levels_of}
use Rattle.ff_lattice.proofs.LevelSets.{levels_of-zero, no_bits, IsLeast-trailing_zeros}
use Rattle.ff_lattice.proofs.level_set.LevelSet.least.Goals as goal

pub returns-then-self-eq0-clause-none : goal.returns-then-self-eq0-clause-none
returns-then-self-eq0-clause-none c = rw (← c.self.view_is) (λ _. ap levels_of c.if-self-eq0.true ∙ levels_of-zero, λ _. refl)

pub returns-clause-none : goal.returns-clause-none
returns-clause-none c =
    rw (← c.self.view_is) (λ no. absurd (true≢false no), λ none. absurd (c.if-self-eq0.false (no_bits c.self.inside.bits c.self.invariant none)))

pub returns-clause-least : goal.returns-clause-least
returns-clause-least c = rw (← c.self.view_is) (IsLeast-trailing_zeros c.self.inside.bits (omega arith) c.self.invariant)
