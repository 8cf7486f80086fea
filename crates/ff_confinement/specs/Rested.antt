-- Worlds of copies between and within the inputs of a run from anywhere.
use Rattle.std.specs.Prelude.{◌≡◌, ℕ, ◌<◌, ◌≤◌, Bool, ◌==◌, Option, List, [], ◌∷◌, ◌++◌}
use Rattle.ff_confinement.specs.Turns.{Reactor, machine_of}
use Rattle.ff_confinement.specs.Copies.{Levels}
use Rattle.ff_confinement.specs.Worlds.{World, leader, levels, each, copy_at, AreAtRest}
use Rattle.ff_confinement.specs.Standings.{Standing, Offering, state_after, handles, stay_alike}

-- What each level is offered of the input i, after the inputs `before`: an entry for each of n
-- levels.
abbrev pub offers_of : {I : Type 0} → Offering I → ℕ → List I → I → List (Option I)
offers_of offers n before i = each (λ l. offers before l i) n

-- Where the copies of a world stand.
abbrev pub standing_of : {I O S : Type 0} → Reactor I O S → World I O S → Standing S
standing_of r w = record { states = λ l. (copy_at r w l).state; alike = λ k l. leader w.leaders k == leader w.leaders l }

module _ {I O S : Type 0} (r : Reactor I O S) (most : ℕ) (v : Levels I O) (offers : Offering I) (from : Standing S) (same : I → I → Bool) where
  -- A world between two inputs of a run: no level has work or outputs that weren't taken, and the
  -- copies stand where the inputs have brought them.
  pub record IsRested (w : World I O S) (is : List I) : Type 0 where
    pub count : levels w ≡ v.count
    pub rests : AreAtRest r w
    pub states : (l : ℕ) → l < levels w → (copy_at r w l).state ≡ state_after (machine_of r most) v offers from l is
    pub classes : (k l : ℕ) → k < levels w → l < levels w → (leader w.leaders k == leader w.leaders l) ≡ stay_alike (machine_of r most) v offers from same k l is
    pub taken : (l : ℕ) → l < levels w → (copy_at r w l).outputs ≡ []

  -- The same after one input more, whose outputs were taken at the levels below l and at no other.
  pub record IsTaking (w : World I O S) (before : List I) (i : I) (l : ℕ) : Type 0 where
    pub count : levels w ≡ v.count
    pub rests : AreAtRest r w
    pub states : (k : ℕ) → k < levels w → (copy_at r w k).state ≡ state_after (machine_of r most) v offers from k (before ++ i ∷ [])
    pub classes : (j k : ℕ) → j < levels w → k < levels w → (leader w.leaders j == leader w.leaders k) ≡ stay_alike (machine_of r most) v offers from same j k (before ++ i ∷ [])
    pub done : (k : ℕ) → k < levels w → k < l → (copy_at r w k).outputs ≡ []
    pub waiting : (k : ℕ) → k < levels w → l ≤ k → (copy_at r w k).outputs ≡ (handles (machine_of r most) v offers from k before i).outputs
