-- What stands at a place of a list after one write, or with one item more.
use Rattle.std.proofs.Common.{◌≡◌, ◌≢◌, ℕ, zero, suc, ◌<◌, ◌⊎◌, inl, inr, ⊎_elim, Option, Some, None, List, [], ◌∷◌, ◌++◌, length, set, refl, ap, arith, option_and_then}
use Rattle.std.specs.List.{slice_get}

pub get_set_same : {A : Type 0} (xs : List A) (i : ℕ) (y : A) → i < length xs → slice_get (set xs i y) i ≡ Some y
get_set_same [] i y h = absurd (omega arith)
get_set_same (x ∷ xs) zero y h = refl
get_set_same (x ∷ xs) (suc i) y h = get_set_same xs i y (omega arith)

pub get_set_other : {A : Type 0} (xs : List A) (i j : ℕ) (y : A) → j ≢ i → slice_get (set xs i y) j ≡ slice_get xs j
get_set_other [] i j y ne = refl
get_set_other (x ∷ xs) zero zero y ne = absurd (ne refl)
get_set_other (x ∷ xs) zero (suc j) y ne = refl
get_set_other (x ∷ xs) (suc i) zero y ne = refl
get_set_other (x ∷ xs) (suc i) (suc j) y ne = get_set_other xs i j y (λ e. ne (ap suc e))

-- after a write an item is the one that was written, or stood there before
pub written : {A : Type 0} (xs : List A) (i j : ℕ) (y c : A) → slice_get (set xs i y) j ≡ Some c → ((j ≡ i) × (c ≡ y)) ⊎ ((j ≢ i) × (slice_get xs j ≡ Some c))
written [] i j y c e = cc
written (x ∷ xs) zero zero y c e = inl (refl, cc)
written (x ∷ xs) zero (suc j) y c e = inr (λ h. absurd (omega (arith, h)), e)
written (x ∷ xs) (suc i) zero y c e = inr (λ h. absurd (omega (arith, h)), e)
written (x ∷ xs) (suc i) (suc j) y c e =
    ⊎_elim (λ h. inl (ap suc h.0, h.1)) (λ h. inr (λ q. h.0 (omega (arith, q)), h.1)) (written xs i j y c e)

-- the items before the last stay, and the last is there
pub get_push_old : {A : Type 0} (xs : List A) (k : ℕ) (y c : A) → slice_get xs k ≡ Some c → slice_get (xs ++ y ∷ []) k ≡ Some c
get_push_old [] k y c e = cc
get_push_old (x ∷ xs) zero y c e = e
get_push_old (x ∷ xs) (suc k) y c e = get_push_old xs k y c e

pub get_push_new : {A : Type 0} (xs : List A) (k : ℕ) (y : A) → k ≡ length xs → slice_get (xs ++ y ∷ []) k ≡ Some y
get_push_new [] zero y e = refl
get_push_new [] (suc k) y e = absurd (omega (arith, e))
get_push_new (x ∷ xs) zero y e = absurd (omega (arith, e))
get_push_new (x ∷ xs) (suc k) y e = get_push_new xs k y (omega (arith, e))

-- with an item more, an item is the last or was there before
pub pushed : {A : Type 0} (xs : List A) (k : ℕ) (y c : A) → slice_get (xs ++ y ∷ []) k ≡ Some c → (slice_get xs k ≡ Some c) ⊎ ((k ≡ length xs) × (c ≡ y))
pushed [] zero y c e = inr (refl, cc)
pushed [] (suc k) y c e = cc
pushed (x ∷ xs) zero y c e = inl e
pushed (x ∷ xs) (suc k) y c e = ⊎_elim (λ h. inl h) (λ h. inr (omega (arith, h.0), h.1)) (pushed xs k y c e)

-- two steps that came to something
pub some_of : {A B : Type 0} (f : A → Option B) (o : Option A) (b : B) → option_and_then f o ≡ Some b → (x : A) × (o ≡ Some x) × (f x ≡ Some b)
some_of f None b e = cc
some_of f (Some x) b e = (x, refl, e)
