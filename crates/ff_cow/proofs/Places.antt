-- A cell's place among all, as the number of its node and its place there.
use Rattle.std.proofs.Common.{◌≡◌, ℕ, zero, suc, pred, ◌+◌, ◌*◌, ◌/◌, ◌%◌, ◌<◌, ◌≤◌, List, [], ◌∷◌, ◌++◌, length, get_or, take, drop, set, refl, ap, sym, arith, inl, inr, zero-add, append_assoc, length-append}
use Rattle.std.specs.List.{slice_get}
use Rattle.std.proofs.lemmas.List.{append-nil, drop_all, set-append_left}
use Rattle.std.proofs.lemmas.Bool.{cases_lt}
use Rattle.std.proofs.Math.Nat.{div-le_of_le-mul, mul_comm}
use Rattle.std.proofs.lemmas.Nat.{div-add-mod', div_below, mod_below, le-div}
use Rattle.ff_cow.specs.Nodes.{cells_of, IsPacked}
use Rattle.ff_cow.proofs.Packed.{length-front, length_at_most, length_at_least, split, split-set, length-kid}

-- a place of the front, of all
slice_get-front : {V : Type 0} (ys zs : List V) (j : ℕ) → j < length ys → slice_get (ys ++ zs) j ≡ slice_get ys j
slice_get-front [] zs j h = absurd (omega arith)
slice_get-front (y ∷ ys) zs zero h = refl
slice_get-front (y ∷ ys) zs (suc j) h = slice_get-front ys zs j (omega arith)

-- place j of the middle, of all
slice_get-behind : {V : Type 0} (xs ys zs : List V) (j : ℕ) → j < length ys → slice_get (xs ++ (ys ++ zs)) (length xs + j) ≡ slice_get ys j
slice_get-behind [] ys zs j h = rw zero-add (slice_get-front ys zs j h)
slice_get-behind (x ∷ xs) ys zs j h =
    let more : length (x ∷ xs) + j ≡ suc (length xs + j) = omega arith in
    rw more (slice_get-behind xs ys zs j h)

set-behind : {V : Type 0} (xs ys zs : List V) (j : ℕ) (v : V) → j < length ys → set (xs ++ (ys ++ zs)) (length xs + j) v ≡ xs ++ (set ys j v ++ zs)
set-behind [] ys zs j v h = rw zero-add (set-append_left ys zs j v h)
set-behind (x ∷ xs) ys zs j v h =
    let more : length (x ∷ xs) + j ≡ suc (length xs + j) = omega arith in
    rw more (ap (λ rest. x ∷ rest) (set-behind xs ys zs j v h))

-- Place i is place j of the k-th node: a read finds it there, and a write there is a write at i.
pub record IsPlace {T V : Type 0} (cells : T → List V) (kids : List T) (i k j : ℕ) : Type 0 where
  pub below : k < length kids
  pub within : (d : T) → j < length (cells (get_or kids k d))
  pub reads : (d : T) → slice_get (cells_of cells kids) i ≡ slice_get (cells (get_or kids k d)) j
  pub writes : (d x : T) (v : V) → cells x ≡ set (cells (get_or kids k d)) j v → cells_of cells (set kids k x) ≡ set (cells_of cells kids) i v

-- The k-th node is the last, has j cells, and a cell at its end is a cell at the end of all.
pub record IsEnd {T V : Type 0} (cells : T → List V) (kids : List T) (k j : ℕ) : Type 0 where
  pub below : k < length kids
  pub count : (d : T) → length (cells (get_or kids k d)) ≡ j
  pub grows : (d x : T) (v : V) → cells x ≡ cells (get_or kids k d) ++ v ∷ [] → cells_of cells (set kids k x) ≡ cells_of cells kids ++ v ∷ []

module _ {T V : Type 0} (cells : T → List V) (r : ℕ) (kids : List T) (packed : IsPacked r cells kids) where
  pub some_room : (i : ℕ) → i < length (cells_of cells kids) → 0 < r
  some_room i h =
      let most = length_at_most cells r kids packed in
      elim (cases_lt 0 r) [
        | inl some ↦ some
        | inr none ↦
            let no_room : r ≡ 0 = omega arith in
            let nothing = rw no_room at most in
            absurd (omega arith)
      ]

  -- the cells before, in and behind the k-th node
  pub length-split : (k : ℕ) (d : T) → k < length kids → length (cells_of cells kids) ≡ k * r + (length (cells (get_or kids k d)) + length (cells_of cells (drop (suc k) kids)))
  length-split k d h =
      rw (split cells r kids k d h, length-append, length-append, length-front cells r kids k packed h) refl

  -- behind the last node there is nothing
  pub none_behind : (k : ℕ) → length kids ≤ suc k → cells_of cells (drop (suc k) kids) ≡ []
  none_behind k last = rw (drop_all (suc k) kids last) refl

  at_place : (i k j : ℕ) → k < length kids → j < r → k * r + j ≡ i → i < length (cells_of cells kids) → (d : T) → j < length (cells (get_or kids k d))
  at_place i k j h l e w d =
      let parts = length-split k d h in
      elim (cases_lt (suc k) (length kids)) [
        | inl more ↦ omega (arith, length-kid cells r kids k d packed more)
        | inr last ↦
            let none = ap length (none_behind k last) in
            omega arith
      ]

  pub place : (i k j : ℕ) → k < length kids → j < r → k * r + j ≡ i → i < length (cells_of cells kids) → IsPlace cells kids i k j
  place i k j h l e w = record {
    below = h;
    within = at_place i k j h l e w;
    reads = λ d.
        let front = length-front cells r kids k packed h in
        rw (split cells r kids k d h, ← e, ← front) (slice_get-behind _ _ _ j (at_place i k j h l e w d));
    writes = λ d x v same.
        let front = length-front cells r kids k packed h in
        rw (split-set cells r kids k x h, same, split cells r kids k d h, ← e, ← front) (sym (set-behind _ _ _ j v (at_place i k j h l e w d)));
  }

  -- the same at the quotient and the remainder
  pub place_at : (i : ℕ) → i < length (cells_of cells kids) → IsPlace cells kids i (i / r) (i % r)
  place_at i w =
      let some = some_room i w in
      let most = length_at_most cells r kids packed in
      place i (i / r) (i % r) (div_below i r (length kids) some (omega arith)) (mod_below i r some) (div-add-mod' i r) w

  -- the next cell's node is the last of the row, or it is yet to be made behind full ones
  pub last_node : 0 < r → (length (cells_of cells kids) / r ≡ length kids → ⊥) → length kids ≡ suc (length (cells_of cells kids) / r)
  last_node some other =
      let most = length_at_most cells r kids packed in
      let turned : length (cells_of cells kids) ≤ r * length kids = rw mul_comm most in
      let at_most = div-le_of_le-mul r turned in
      elim (cases_lt 0 (length kids)) [
        | inl any ↦
            let last : length kids ≡ suc (pred (length kids)) = omega arith in
            let least = length_at_least cells r kids (pred (length kids)) packed last in
            let at_least = le-div (pred (length kids)) (length (cells_of cells kids)) r some least in
            omega arith
        | inr none ↦ omega arith
      ]

  pub full_row : 0 < r → length (cells_of cells kids) / r ≡ length kids → length (cells_of cells kids) ≡ length kids * r
  full_row some all =
      let most = length_at_most cells r kids packed in
      let parts = div-add-mod' (length (cells_of cells kids)) r in
      let least = rw all at parts in
      omega arith

  pub end_at : (k j : ℕ) → k * r + j ≡ length (cells_of cells kids) → length kids ≡ suc k → IsEnd cells kids k j
  end_at k j e row =
      let h : k < length kids = omega arith in
      let none = none_behind k (omega arith) in
      record {
        below = h;
        count = λ d.
            let parts = length-split k d h in
            let nothing = ap length none in
            omega arith;
        grows = λ d x v same.
            rw (split-set cells r kids k x h, same, none, append-nil, split cells r kids k d h, none, append-nil)
            (sym (append_assoc (cells_of cells (take k kids)) (cells (get_or kids k d)) (v ∷ [])));
      }
