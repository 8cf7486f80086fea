-- What a search of a list finds, by the items before the place where it ends.
use Rattle.std.proofs.Common.{◌≡◌, ℕ, zero, suc, ◌<◌, Bool, true, false, cond, Some, None, List, [], ◌∷◌, length, get_or, map, find, position, refl, sym, ap, ◌∙◌, ⊎_elim, arith, All}
use Rattle.std.proofs.lemmas.Bool.{or_from, or_cases, eqb-true, lt-ltb, le-ltb}
use Rattle.std.proofs.lemmas.List.{map-id}
use Rattle.std.proofs.lemmas.List.Elements.{All-head, All-tail}
use Rattle.std.proofs.lemmas.List.Sums.{position_or_len_is}
use Rattle.std.specs.List.{list_any, position_or_len}
use Rattle.std.specs.Prelude.{nat_lt}
use Rattle.ff_value.specs.declared.ids.WinId.{WinId}
use Rattle.ff_machine.specs.Windows.{is_win}

-- none passes
pub none_any : {X : Type 0} (p : X → Bool) (xs : List X) (d : X) → ((k : ℕ) → k < length xs → p (get_or xs k d) ≡ false) → list_any p xs ≡ false
none_any p [] d h = refl
none_any p (x ∷ xs) d h = or_from (p x) (list_any p xs) (h 0 (omega arith)) (none_any p xs d (λ k lt. h (suc k) (omega (arith, lt))))

-- the first one that passes, of what is read off the items
pub first_mapped : {X Y : Type 0} (q : Y → Bool) (f : X → Y) (xs : List X) (i : ℕ) (d : X) → i < length xs → ((k : ℕ) → k < i → q (f (get_or xs k d)) ≡ false) → q (f (get_or xs i d)) ≡ true
    → find q (map f xs) ≡ Some (f (get_or xs i d))
first_mapped q f [] i d l before here = absurd (omega (arith, l))
first_mapped q f (x ∷ xs) zero d l before here = ap (λ (b : Bool). cond b (Some (f x)) (find q (map f xs))) here
first_mapped q f (x ∷ xs) (suc i) d l before here =
    ap (λ (b : Bool). cond b (Some (f x)) (find q (map f xs))) (before 0 (omega arith))
    ∙ first_mapped q f xs i d (omega (arith, l)) (λ k lt. before (suc k) (omega (arith, lt))) here

-- none passes of what is read off the items
pub none_mapped : {X Y : Type 0} (q : Y → Bool) (f : X → Y) (xs : List X) (d : X) → ((k : ℕ) → k < length xs → q (f (get_or xs k d)) ≡ false) → find q (map f xs) ≡ None
none_mapped q f [] d h = refl
none_mapped q f (x ∷ xs) d h =
    ap (λ (b : Bool). cond b (Some (f x)) (find q (map f xs))) (h 0 (omega arith))
    ∙ none_mapped q f xs d (λ k lt. h (suc k) (omega (arith, lt)))

-- the first item that passes
pub first_found : {X : Type 0} (p : X → Bool) (xs : List X) (i : ℕ) (d : X) → i < length xs → ((k : ℕ) → k < i → p (get_or xs k d) ≡ false) → p (get_or xs i d) ≡ true → find p xs ≡ Some (get_or xs i d)
first_found p xs i d l before here = ap (find p) (sym (map-id xs)) ∙ first_mapped p (λ x. x) xs i d l before here

-- no item passes
pub none_found : {X : Type 0} (p : X → Bool) (xs : List X) (d : X) → ((k : ℕ) → k < length xs → p (get_or xs k d) ≡ false) → find p xs ≡ None
none_found p xs d h = ap (find p) (sym (map-id xs)) ∙ none_mapped p (λ x. x) xs d h

at_place : {X : Type 0} (p : X → Bool) (xs : List X) (i : ℕ) → position_or_len p xs ≡ i → position p xs ≡ cond (nat_lt i (length xs)) (Some i) None
at_place p xs i e = ap (λ (n : ℕ). cond (nat_lt n (length xs)) (Some n) None) e

-- the place of the first item that passes
pub first_place : {X : Type 0} (p : X → Bool) (xs : List X) (i : ℕ) (d : X) → i < length xs → ((k : ℕ) → k < i → p (get_or xs k d) ≡ false) → p (get_or xs i d) ≡ true → position p xs ≡ Some i
first_place p xs i d l before here =
    at_place p xs i (position_or_len_is p xs i d (omega (arith, l)) before (λ _. here)) ∙ ap (λ (b : Bool). cond b (Some i) None) (lt-ltb i (length xs) l)

-- no item has a place
pub no_place : {X : Type 0} (p : X → Bool) (xs : List X) (d : X) → ((k : ℕ) → k < length xs → p (get_or xs k d) ≡ false) → position p xs ≡ None
no_place p xs d h =
    at_place p xs (length xs) (position_or_len_is p xs (length xs) d (omega arith) h (λ l. absurd (omega (arith, l))))
    ∙ ap (λ (b : Bool). cond b (Some (length xs)) None) (le-ltb (length xs) (length xs) (omega arith))

-- an open window is a window
pub open_lives : (wins : ℕ) (n : WinId) (opened : List WinId) → All (λ m. m.0 < wins) opened → list_any (is_win n) opened ≡ true → n.0 < wins
open_lives wins n [] are h = cc
open_lives wins n (m ∷ opened) are h =
    ⊎_elim
    (λ e. let same : n.0 ≡ m.0 = eqb-true n.0 m.0 e in let lives : m.0 < wins = All-head (λ v. v.0 < wins) m opened are in omega (arith, same, lives))
    (λ e. open_lives wins n opened (All-tail (λ v. v.0 < wins) m opened are) e)
    (or_cases (is_win n m) (list_any (is_win n) opened) h)
