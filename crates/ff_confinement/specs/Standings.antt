-- Runs of copies from anywhere: each level's copy starts in a state of its own, some levels are one
-- copy from the start on, and what a level is offered of an input may depend on the inputs before
-- it. The multi-executed run is the one in which all copies are new and each level is offered what
-- it sees.
use Rattle.std.specs.Prelude.{◌≡◌, ◌<◌, ℕ, Bool, true, cond, not, ◌&&◌, Option, List, [], ◌∷◌, ◌++◌, flat_map, sum, sum_by}
use Rattle.std.specs.List.{list_all, cons_option}
use Rattle.std.specs.Option.{option_eq}
use Rattle.ff_confinement.specs.Runs.{Handled, Machine, entries, after_from, handle_seen}
use Rattle.ff_confinement.specs.Copies.{Levels, at_level}
use Rattle.ff_contract.specs.Lists.{below}

-- Where the copies of all levels stand between two inputs: the state of each level's copy, and
-- which levels are one copy.
pub record Standing (S : Type 0) : Type 0 where
  pub states : ℕ → S
  pub alike : ℕ → ℕ → Bool

-- Of n levels the same are one copy, and each has the same state.
pub record StandAlike {S : Type 0} (n : ℕ) (a b : Standing S) : Type 0 where
  pub states : (l : ℕ) → l < n → a.states l ≡ b.states l
  pub classes : (k l : ℕ) → k < n → l < n → a.alike k l ≡ b.alike k l

-- What each level is offered of an input, after the inputs before it.
abbrev pub Offering : Type 0 → Type 0
Offering I = List I → ℕ → I → Option I

-- All copies are new, and all levels are one copy.
abbrev pub fresh : {I O S : Type 0} → Machine I O S → Standing S
fresh m = record { states = λ l. m.start; alike = λ k l. true }

-- Each level is offered what it sees.
abbrev pub as_seen : {I O : Type 0} → Levels I O → Offering I
as_seen v before l i = v.sees l i

-- What is offered of more inputs, once these have come.
abbrev pub once_come : {I : Type 0} → Offering I → List I → Offering I
once_come offers is before l i = offers (is ++ before) l i

-- All that a level is offered of the inputs, in order; `before` have come already.
abbrev pub given_from : {I : Type 0} → Offering I → ℕ → List I → List I → List I
given_from offers l before [] = []
given_from offers l before (i ∷ is) = cons_option (offers before l i) (given_from offers l (before ++ i ∷ []) is)

abbrev pub given : {I : Type 0} → Offering I → ℕ → List I → List I
given offers l is = given_from offers l [] is

-- Whether two levels are offered the same of each of the inputs, where `same` tells which inputs
-- are equal; `before` have come already.
abbrev pub given_alike_from : {I : Type 0} → (I → I → Bool) → Offering I → ℕ → ℕ → List I → List I → Bool
given_alike_from same offers k l before [] = true
given_alike_from same offers k l before (i ∷ is) = option_eq same (offers before k i) (offers before l i) && given_alike_from same offers k l (before ++ i ∷ []) is

abbrev pub given_alike : {I : Type 0} → (I → I → Bool) → Offering I → ℕ → ℕ → List I → Bool
given_alike same offers k l is = given_alike_from same offers k l [] is

module _ {I O S : Type 0} (m : Machine I O S) (v : Levels I O) (offers : Offering I) (from : Standing S) where
  -- The state of a level's copy when it has handled all that the level is offered of the inputs.
  unfoldable pub state_after : ℕ → List I → S
  state_after l is = after_from m (from.states l) (given offers l is)

  -- How a level's copy handles the input i after the inputs `before`.
  abbrev pub handles : ℕ → List I → I → Handled O S
  handles l before i = handle_seen m (state_after l before) (offers before l i)

  -- What it puts out of its own level, and what the copies at the levels below n put out, level by
  -- level.
  abbrev pub puts_own : ℕ → List I → I → List O
  puts_own l before i = at_level v l (handles l before i).outputs

  abbrev pub puts_below : List I → I → ℕ → List O
  puts_below before i n = flat_map (λ l. puts_own l before i) (below n)

  -- What all the copies put out for one input, the copy at level 0 first.
  abbrev pub puts_all : List I → I → List O
  puts_all before i = puts_below before i v.count

  -- The run of all the copies, one entry for each input.
  unfoldable pub run : List I → List (List O)
  run is = entries puts_all [] is

  module _ (same : I → I → Bool) where
    -- Whether two levels are one copy still: they were one at the start, and were offered the same
    -- of each of the inputs.
    abbrev pub stay_alike : ℕ → ℕ → List I → Bool
    stay_alike k l is = from.alike k l && given_alike same offers k l is

    -- Whether l is the least of the levels of its copy.
    abbrev pub leads : ℕ → List I → Bool
    leads l is = list_all (λ k. not (stay_alike k l is)) (below l)

    -- The turns that one input takes: those of the least level of each copy.
    abbrev pub turns_all : List I → I → ℕ
    turns_all before i = sum_by (λ l. cond (leads l (before ++ i ∷ [])) (handles l before i).turns 0) (below v.count)

    -- The work over all the inputs: the turns of a copy of several levels are made once.
    unfoldable pub work_of : List I → ℕ
    work_of is = sum (entries turns_all [] is)

    -- Where the copies stand after the inputs.
    abbrev pub standing_after : List I → Standing S
    standing_after is = record { states = λ l. state_after l is; alike = λ k l. stay_alike k l is }
