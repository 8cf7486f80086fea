-- How far a counter may have moved.
use Rattle.std.specs.Prelude.{ℕ, ◌+◌, ◌≤◌}

-- a counter that stood at one number stands at the other: it has not gone back, and has moved by so
-- many at most
abbrev pub RisesBy : ℕ → ℕ → ℕ → Type 0
RisesBy most old new = (old ≤ new) × (new ≤ old + most)
