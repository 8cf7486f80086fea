-- The work of shared copies: copies that have seen the same of each input so far are one, and their
-- turns are made once.
use Rattle.std.specs.Prelude.{ℕ, Bool, cond, not, List, [], ◌∷◌, ◌++◌, sum, sum_by}
use Rattle.std.specs.List.{list_all}
use Rattle.std.specs.Option.{option_eq}
use Rattle.ff_confinement.specs.Runs.{Machine, entries, after, handle_seen}
use Rattle.ff_confinement.specs.Copies.{Levels, seen}
use Rattle.ff_contract.specs.Lists.{below}

module _ {I O S : Type 0} (m : Machine I O S) (v : Levels I O) (same : I → I → Bool) where
  -- Whether two levels see the same of each of the inputs, where `same` tells which inputs are
  -- equal.
  abbrev pub see_alike : ℕ → ℕ → List I → Bool
  see_alike k l is = list_all (λ i. option_eq same (v.sees k i) (v.sees l i)) is

  -- Whether l is the least of the levels that see the same as it of each of the inputs.
  abbrev pub is_least : ℕ → List I → Bool
  is_least l is = list_all (λ k. not (see_alike k l is)) (below l)

  -- The turns in which the level's copy handles the input i after the inputs `before`: none where
  -- the level doesn't see i.
  abbrev pub copy_turns : ℕ → List I → I → ℕ
  copy_turns l before i = (handle_seen m (after m (seen v l before)) (v.sees l i)).turns

  -- The turns that one input takes: those of the least level of each class.
  abbrev pub work_entry : List I → I → ℕ
  work_entry before i = sum_by (λ l. cond (is_least l (before ++ i ∷ [])) (copy_turns l before i) 0) (below v.count)

  -- The work of shared copies over all the inputs.
  unfoldable pub work : List I → ℕ
  work is = sum (entries work_entry [] is)
