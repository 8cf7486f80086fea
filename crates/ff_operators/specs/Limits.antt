-- The limits of texts that operators make.
use Rattle.std.specs.Prelude.{ℕ}
use Rattle.ff_operators.specs.declared.limits.TheConstants.{MOST_MADE_BYTES, MOST_MASS}

-- the bytes of the longest text that an operator makes
abbrev pub longest_made : ℕ
longest_made = MOST_MADE_BYTES

-- the greatest mass of one copy of the browser
abbrev pub most_mass : ℕ
most_mass = MOST_MASS
