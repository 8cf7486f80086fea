-- The first cells of a list, of which one is written, and a list from which one is taken out.
use Rattle.std.proofs.Common.{◌≡◌, ℕ, zero, suc, ◌+◌, ◌-◌, ◌<◌, ◌≤◌, Some, List, [], ◌∷◌, ◌++◌, length, take, drop, set, get_or, refl, sym, ap, ◌∙◌, append_assoc, arith}
use Rattle.std.specs.List.{remove, slice_get}
use Rattle.std.proofs.lemmas.Option.{get_or_from_slice_get}
use Rattle.std.proofs.lemmas.List.{take_at, take_all, take_more, drop_more, length-take-le, length-append, length-drop, set_at, get_or-append_right, get_or-drop}
use Rattle.std.proofs.lemmas.List.Edits.{length-remove, get_or-remove_above}

-- a cell is written before or after the front is taken
pub take_of_set : {A : Type 0} (n : ℕ) (xs : List A) (i : ℕ) (v : A) → take n (set xs i v) ≡ set (take n xs) i v
take_of_set zero xs i v = refl
take_of_set (suc n) [] i v = refl
take_of_set (suc n) (x ∷ xs) zero v = refl
take_of_set (suc n) (x ∷ xs) (suc i) v = ap (λ l. x ∷ l) (take_of_set n xs i v)

-- the list without its i-th item up to place j, and the whole one from there on
abbrev pub half_moved : {A : Type 0} → List A → ℕ → ℕ → List A
half_moved xs i j = take j (remove xs i) ++ drop j xs

module _ {A : Type 0} (xs : List A) (i : ℕ) (within : i < length xs) where
  fewer : length (remove xs i) + 1 ≡ length xs
  fewer = length-remove xs i within

  module _ (j : ℕ) (from : i ≤ j) where
    front : j + 1 ≤ length xs → length (take j (remove xs i)) ≡ j
    front h = length-take-le j (remove xs i) (omega (arith, fewer))

    pub length_moved : j + 1 ≤ length xs → length (half_moved xs i j) ≡ length xs
    length_moved h = length-append (take j (remove xs i)) (drop j xs) ∙ omega (arith, front h, length-drop j xs)

    pub moved_more : j + 1 < length xs → (v : A) → slice_get (half_moved xs i j) (j + 1) ≡ Some v → set (half_moved xs i j) j v ≡ half_moved xs i (j + 1)
    moved_more h v is =
        let kept = take j (remove xs i) in
        let at_next : get_or (drop j xs) (j + 1 - j) v ≡ get_or xs (j + 1) v = get_or-drop j xs (j + 1 - j) v ∙ ap (λ k. get_or xs k v) {x = j + (j + 1 - j)} {y = j + 1} (omega arith) in
        let read : get_or xs (j + 1) v ≡ v =
        sym (get_or-append_right kept (drop j xs) j (j + 1) v (front (omega arith)) (omega arith) ∙ at_next) ∙ get_or_from_slice_get (half_moved xs i j) (j + 1) v v is in
        ap (λ l. set (kept ++ l) j v) (drop_more xs j v (omega arith))
        ∙ set_at kept (get_or xs j v) (drop (j + 1) xs) v j (front (omega arith))
        ∙ sym (append_assoc kept (v ∷ []) (drop (j + 1) xs))
        ∙ ap (λ l. l ++ drop (j + 1) xs) (sym (take_more (remove xs i) j v (omega (arith, fewer)) ∙ ap (λ y. kept ++ y ∷ []) (get_or-remove_above xs i v j from within ∙ read)))

    pub moved_all : j + 1 ≡ length xs → take j (half_moved xs i j) ≡ remove xs i
    moved_all h = take_at (take j (remove xs i)) (drop j xs) j (front (omega arith)) ∙ take_all j (remove xs i) (omega (arith, fewer))
