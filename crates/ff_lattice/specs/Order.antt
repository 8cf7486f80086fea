-- The order of the levels as a value: their names, and for each level the set of those at or above
-- it.
use Rattle.std.specs.Prelude.{◌≡◌, ℕ, ◌<◌, ◌≤◌, zero, suc, Bool, true, false, not, ◌&&◌, ◌||◌, List, [], ◌∷◌, length, get_or, nat_lt, codes, bytes_eq, Option, Some, None, option_map, if◌then◌else◌}
use Rattle.std.specs.List.{list_all, position_from}
use Rattle.std.specs.Char.{is_ascii_alphabetic}
use Rattle.ff_name.specs.Spelling.{stands_in_name}
use Rattle.ff_name.specs.declared.levels.Level.{Level}
use Rattle.ff_lattice.specs.declared.names.TheConstants.{MOST_LEVELS, MOST_LEVEL_NAME_BYTES}
use Rattle.ff_lattice.specs.Bounds.{IsLattice}
use Rattle.ff_lattice.specs.LevelSet.{has, IsLevelSet, below}

pub record Order : Type 0 where
  pub names : List (List ℕ)
  pub above : List (List ℕ)

-- how many levels there are
abbrev pub size : Order → ℕ
size order = length order.names

-- whether the level a is at or below the level b
abbrev pub leq : Order → ℕ → ℕ → Bool
leq order a b = has (get_or order.above a []) b

-- the name of a level
abbrev pub name : Order → ℕ → List ℕ
name order l = get_or order.names l []

-- the level with this number
abbrev pub numbered : ℕ → Level
numbered l = record { 0 = l }

-- the level of this name, or none where no level has it
abbrev pub level_named : Order → List ℕ → Option Level
level_named order text = option_map numbered (position_from (λ one. bytes_eq one text) 0 order.names)

-- a tag, where there is one, names a level
abbrev pub IsTag : Order → Option Level → Type 0
IsTag order None = Unit {0}
IsTag order (Some tag) = tag.0 < size order

-- the level L below the level H
abbrev pub two : Order
two = record { names = codes "L" ∷ codes "H" ∷ []; above = (0 ∷ 1 ∷ []) ∷ (1 ∷ []) ∷ [] }

-- the level a is at or below the level b
abbrev pub AtOrBelow : Order → ℕ → ℕ → Type 0
AtOrBelow order a b = leq order a b ≡ true

-- the one level below n that passes a test
unfoldable pub pick : (ℕ → Bool) → ℕ → ℕ
pick passes zero = 0
pick passes (suc n) = if passes n then n else pick passes n

-- whether c is the least level above a and b, in an order of n levels
abbrev pub is_least_above : (ℕ → ℕ → Bool) → ℕ → ℕ → ℕ → ℕ → Bool
is_least_above at_or_below n a b c = at_or_below a c && at_or_below b c && list_all (λ d. not (at_or_below a d && at_or_below b d) || at_or_below c d) (below n)

-- the least level that a and b are both at or below
unfoldable pub join : Order → ℕ → ℕ → ℕ
join order a b = pick (is_least_above (leq order) (size order) a b) (size order)

-- the greatest level that is at or below both a and b
unfoldable pub meet : Order → ℕ → ℕ → ℕ
meet order a b = pick (is_least_above (λ x y. leq order y x) (size order) a b) (size order)

-- the level at or below each
unfoldable pub bottom : Order → ℕ
bottom order = pick (λ l. list_all (leq order l) (below (size order))) (size order)

-- the level at or above each
unfoldable pub top : Order → ℕ
top order = pick (λ l. list_all (λ m. leq order m l) (below (size order))) (size order)

-- a level's name: a letter, and then letters, digits, `_` and `-`, in at most MOST_LEVEL_NAME_BYTES
-- bytes
abbrev pub is_level_name : List ℕ → Bool
is_level_name [] = false
is_level_name (first ∷ rest) = is_ascii_alphabetic first && list_all stands_in_name rest && nat_lt (length rest) MOST_LEVEL_NAME_BYTES

-- one to MOST_LEVELS levels with names of their own, in the order of a lattice
pub record IsOrder (order : Order) : Type 0 where
  pub some : 1 ≤ size order
  pub few : size order ≤ MOST_LEVELS
  pub named : (l : ℕ) → l < size order → is_level_name (name order l) ≡ true
  pub apart : (a b : ℕ) → a < size order → b < size order → name order a ≡ name order b → a ≡ b
  pub rows : length order.above ≡ size order
  pub set : (l : ℕ) → IsLevelSet (get_or order.above l [])
  pub within : (a b : ℕ) → AtOrBelow order a b → b < size order
  pub reflexive : (a : ℕ) → a < size order → AtOrBelow order a a
  pub transitive : (a b c : ℕ) → AtOrBelow order a b → AtOrBelow order b c → AtOrBelow order a c
  pub lattice : IsLattice (AtOrBelow order) (size order)
