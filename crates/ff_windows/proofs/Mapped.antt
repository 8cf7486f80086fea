-- What holds of the images of a list's items, one item after another.
use Rattle.std.proofs.Common.{◌≡◌, ℕ, ◌+◌, ◌<◌, List, [], ◌∷◌, ◌++◌, All, map, take, length, get_or, sym, ap, subst, ◌∙◌, arith}
use Rattle.std.proofs.Math.ListN.{get_or-map}
use Rattle.std.proofs.lemmas.List.{length-map, map_more}
use Rattle.std.proofs.lemmas.List.Elements.{All-push, All-get_or}

module _ {A B : Type 0} (P : B → Type 0) (f : A → B) (xs : List A) (i : ℕ) (x : A) (within : i < length xs) (is : x ≡ get_or xs i x) where
  -- one item more
  pub mapped_more : All P (map f (take i xs)) → P (f x) → All P (map f (take (i + 1) xs))
  mapped_more so_far here = subst (All P) (sym (map_more f xs i x within ∙ ap (λ y. map f (take i xs) ++ f y ∷ []) (sym is))) (All-push P (map f (take i xs)) (f x) so_far here)

  -- one of them
  pub mapped_at : All P (map f xs) → P (f x)
  mapped_at all = subst P (get_or-map f xs i x ∙ ap f (sym is)) (All-get_or P (map f xs) i (f x) (omega (arith, within, length-map xs f)) all)
