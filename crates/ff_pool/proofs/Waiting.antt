-- The inputs that wait: of those that forks share, the ones that were taken are gone.
use Rattle.std.proofs.Common.{◌≡◌, ℕ, ◌+◌, Some, List, ◌∷◌, ◌++◌, drop, ap, ◌∙◌}
use Rattle.std.specs.List.{slice_get}
use Rattle.std.proofs.lemmas.List.{drop_more}
use Rattle.std.proofs.lemmas.Option.{slice_get_within, get_or_from_slice_get}

-- the first of those that forks share and that wait
pub first_older : {X : Type 0} (older newer : List X) (taken : ℕ) (x : X) → slice_get older taken ≡ Some x → drop taken older ++ newer ≡ x ∷ (drop (taken + 1) older ++ newer)
first_older older newer taken x found =
    ap (λ xs. xs ++ newer) (drop_more older taken x (slice_get_within older taken x found) ∙ ap (λ y. y ∷ drop (taken + 1) older) (get_or_from_slice_get older taken x x found))
