-- The last item of a list, and another put in its place.
use Rattle.std.proofs.Common.{◌≡◌, ◌<◌, ◌-◌, ℕ, zero, suc, List, [], ◌∷◌, ◌++◌, length, get_or, set, refl, sym, ap, true, false, arith}

-- the list is some items and its last, before another is put for that one and after
at-last : {A : Type 0} (xs : List A) (n : ℕ) (x y : A) → length xs ≡ suc n → get_or xs n x ≡ x
    → (rest : List A) × (xs ≡ rest ++ x ∷ []) × (set xs n y ≡ rest ++ y ∷ [])
at-last [] n x y l h = cc
at-last (z ∷ []) zero x y l h = ([], ap (λ w. w ∷ []) h, refl)
at-last (z ∷ []) (suc n) x y l h = absurd (omega (arith, l))
at-last (z ∷ w ∷ zs) zero x y l h = absurd (omega (arith, l))
at-last (z ∷ w ∷ zs) (suc n) x y l h =
    let r = at-last (w ∷ zs) n x y (omega (arith, l)) h in
    (z ∷ r.0, ap (λ vs. z ∷ vs) r.1, ap (λ vs. z ∷ vs) r.2)

-- the same of the item at the place before the length
pub last-item : {A : Type 0} (xs : List A) (n : ℕ) (x y : A) → length xs ≡ n → 0 < length xs → ((d : A) → x ≡ get_or xs (n - 1) d)
    → (rest : List A) × (xs ≡ rest ++ x ∷ []) × (set xs (n - 1) y ≡ rest ++ y ∷ [])
last-item xs n x y len less is = at-last xs (n - 1) x y (omega (arith, len, less)) (sym (is x))

-- there is none where the length is not above 0
pub no-last : {A : Type 0} (xs : List A) (n : ℕ) → length xs ≡ n → (0 < n → false ≡ true) → xs ≡ []
no-last [] n l h = refl
no-last (x ∷ xs) n l h = let e = h (omega (arith, l)) in cc
