-- What the levels at or below a level are offered, and the claim that the level's view depends on
-- that alone.
use Rattle.std.specs.Prelude.{◌≡◌, ℕ, ◌<◌, Bool, cond, Option, None, List, [], filter, All}
use Rattle.std.specs.List.{list_any}
use Rattle.std.specs.Option.{is_some}
use Rattle.ff_confinement.specs.Runs.{Machine, entries}
use Rattle.ff_confinement.specs.Copies.{Levels}
use Rattle.ff_confinement.specs.Text.{text_out, view}
use Rattle.ff_confinement.specs.Worlds.{each}
use Rattle.ff_confinement.specs.Standings.{Standing, Offering, run}

-- Whether something is offered.
abbrev pub is_given : {I : Type 0} → List (Option I) → Bool
is_given row = list_any is_some row

module _ {I O : Type 0} (v : Levels I O) (offers : Offering I) where
  -- What the levels that pass a test are offered of the input i, after the inputs `before`, in
  -- their order; nothing stands in the place of every other level.
  abbrev pub row_where : (ℕ → Bool) → List I → I → List (Option I)
  row_where low before i = each (λ k. cond (low k) (offers before k i) None) v.count

  -- All that they are offered of the inputs, without the inputs of which none of them is offered
  -- anything.
  abbrev pub given_where : (ℕ → Bool) → List I → List (List (Option I))
  given_where low is = filter is_given (entries (row_where low) [] is)

  -- The same of the levels at or below l.
  abbrev pub given_below : ℕ → List I → List (List (Option I))
  given_below l is = given_where (λ k. v.leq k l) is

module _ {I O S : Type 0} (m : Machine I O S) (v : Levels I O) (offers : Offering I) (from : Standing S) where
  -- The view of each level is the same on all inputs of which the levels at or below it are offered
  -- the same.
  abbrev pub IsSecureAsOffered : (I → Type 0) → List I → List ℕ → Type 0
  IsSecureAsOffered InputOk is text = (l : ℕ) (js : List I) → l < v.count → All InputOk js → given_below v offers l js ≡ given_below v offers l is
      → view v l text ≡ view v l (text_out v (run m v offers from js))
