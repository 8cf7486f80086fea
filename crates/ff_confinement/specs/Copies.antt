-- Levels, what each of them sees, its copy of the machine, and the run of all the copies together.
use Rattle.std.specs.Prelude.{ℕ, zero, suc, Bool, ◌==◌, Option, Some, None, List, [], ◌∷◌, ◌++◌, filter, filter_map, flat_map}
use Rattle.ff_contract.specs.Lists.{below}
use Rattle.ff_confinement.specs.Runs.{Machine, entries, last_entry, plain}

-- The levels are the numbers below `count`. `leq k l`: k is at or below l. `sees l i` is what l
-- sees of the input i, `level_out o` the level that the output o belongs to, `name` the word for a
-- level, `print o` the output as text.
pub record Levels (I O : Type 0) : Type 0 where
  pub count : ℕ
  pub leq : ℕ → ℕ → Bool
  pub sees : ℕ → I → Option I
  pub level_out : O → ℕ
  pub name : ℕ → List ℕ
  pub print : O → List ℕ

-- The list where there is something, and the empty list where there is nothing.
abbrev pub if_some : {X Y : Type 0} → Option X → List Y → List Y
if_some None ys = []
if_some (Some x) ys = ys

module _ {I O : Type 0} (v : Levels I O) where
  -- All that the level sees of the inputs, in order.
  abbrev pub seen : ℕ → List I → List I
  seen l is = filter_map (v.sees l) is

  -- The outputs that belong to the level, in order.
  abbrev pub at_level : ℕ → List O → List O
  at_level l os = filter (λ o. v.level_out o == l) os

module _ {I O S : Type 0} (m : Machine I O S) (v : Levels I O) where
  -- What the level's copy puts out for the input i after the inputs `before`: nothing where the
  -- level doesn't see i, else the outputs at that level of the last entry of a plain run over all
  -- that the level has seen, i included.
  unfoldable pub copy_entry : ℕ → List I → I → List O
  copy_entry l before i = if_some (v.sees l i) (at_level v l (last_entry (plain m (seen v l (before ++ i ∷ [])))))

  -- The run of the level's copy, one entry for each input, seen or not.
  abbrev pub copy : ℕ → List I → List (List O)
  copy l is = entries (copy_entry l) [] is

  -- What the copies at the levels below n put out for the input i after the inputs `before`, level
  -- by level.
  abbrev pub entry_below : List I → I → ℕ → List O
  entry_below before i n = flat_map (λ l. copy_entry l before i) (below n)

  -- What all the copies put out for one input, the copy at level 0 first.
  abbrev pub multi_entry : List I → I → List O
  multi_entry before i = entry_below before i v.count

  -- The multi-executed run: for each input what all the copies put out.
  unfoldable pub multi : List I → List (List O)
  multi is = entries multi_entry [] is
