-- The parts of a new pool, level by level.
use Rattle.std.proofs.Common.{◌≡◌, ℕ, ◌+◌, List, [], ◌∷◌, ◌++◌, sym, ap, ◌∙◌}
use Rattle.ff_confinement.specs.Worlds.{each}
use Rattle.ff_confinement.proofs.Below.{each_more}

pub made_more : {X : Type 0} (x : X) (xs : List X) (n : ℕ) → xs ≡ each (λ k. x) n → xs ++ x ∷ [] ≡ each (λ k. x) (n + 1)
made_more x xs n e = ap (λ ys. ys ++ x ∷ []) e ∙ sym (each_more (λ k. x) n)
