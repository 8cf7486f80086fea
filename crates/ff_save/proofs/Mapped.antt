-- Lists whose images are equal.
use Rattle.std.proofs.Common.{◌≡◌, List, [], ◌∷◌, length, map, get_or, drop, All, refl, ap, ap₂, arith}
use Rattle.std.proofs.lemmas.List.Elements.{All-head, All-tail}

module _ {X Y : Type 0} (P : X → Type 0) (f : X → Y) (one : (x y : X) → P x → P y → f x ≡ f y → x ≡ y) where
  -- of items that are equal where their images are
  pub same_on : (xs ys : List X) → All P xs → All P ys → map f xs ≡ map f ys → xs ≡ ys
  same_on [] [] p q e = refl
  same_on [] (y ∷ ys) p q e = absurd (omega (arith, ap length e))
  same_on (x ∷ xs) [] p q e = absurd (omega (arith, ap length e))
  same_on (x ∷ xs) (y ∷ ys) p q e =
      ap₂ (λ z zs. z ∷ zs)
      (one x y (All-head P x xs p) (All-head P y ys q) (ap (λ zs. get_or zs 0 (f x)) e))
      (same_on xs ys (All-tail P x xs p) (All-tail P y ys q) (ap (drop 1) e))

-- the same of all items
pub same_maps : {X Y : Type 0} (f : X → Y) → ((x y : X) → f x ≡ f y → x ≡ y) → (xs ys : List X) → map f xs ≡ map f ys → xs ≡ ys
same_maps {X} f one xs ys e = same_on (λ (x : X). Unit {0}) f (λ x y p q. one x y) xs ys (λ k d less. tt) (λ k d less. tt) e
