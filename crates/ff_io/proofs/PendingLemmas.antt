-- The pieces that are still to come: the next place of a byte, and going past bytes.
use Rattle.std.proofs.Common.{◌≡◌, ℕ, ◌+◌, ◌^◌, ◌<◌, ◌≤◌, List, [], ◌∷◌, ◌++◌, take, drop, length, Vec, Some, refl, ap, arith, append_assoc, length-drop}
use Rattle.std.proofs.lemmas.List.{drop-drop, take-append-drop}
use Rattle.std.proofs.lemmas.Grind.{common_steps}
use Rattle.std.proofs.Math.Seq.{take-nil}
use Rattle.std.specs.declared.alloc.Global.{Global}
use Rattle.ff_io.specs.Pending.{left_over, nonempty, joined, front_piece, without_front, byte_lists, pieces_from, IsPlace}

-- a piece with bytes left is there
left_over-some : (bytes : List ℕ) (pieces : List (List ℕ)) → 0 < length bytes → left_over bytes pieces ≡ bytes ∷ pieces
left_over-some [] pieces some = absurd (omega arith)
left_over-some (b ∷ bs) pieces some = refl

-- going past n bytes of the first piece
pub pieces_from-add : (vectors : List (Vec ℕ Global)) (offset n : ℕ) → IsPlace vectors offset → n ≤ length (front_piece (pieces_from vectors offset)) → pieces_from vectors (offset + n) ≡ without_front n (pieces_from vectors offset)
pieces_from-add [] offset n place bound = refl
pieces_from-add (v ∷ vectors) offset n place bound =
    let some : 0 < length (drop offset v.items) = omega (arith, length-drop offset v.items) in
    rw (left_over-some (drop offset v.items) (nonempty (byte_lists vectors)) some, drop-drop n offset v.items) refl

-- the place past these bytes is a number of the machine
pub add_fits : (vectors : List (Vec ℕ Global)) (offset n : ℕ) → IsPlace vectors offset → n ≤ length (front_piece (pieces_from vectors offset)) → offset < 2 ^ 64 → offset + n < 2 ^ 64
add_fits [] offset n place bound fits = omega arith
add_fits (v ∷ vectors) offset n place bound fits =
    let some : 0 < length (drop offset v.items) = omega (arith, length-drop offset v.items) in
    let left : n ≤ length (drop offset v.items) =
    rw (left_over-some (drop offset v.items) (nonempty (byte_lists vectors)) some) at bound in
    let long = v.ok.0 in
    let within = v.ok.1 in
    let small = v.small in
    omega (arith, length-drop offset v.items)

-- the bytes that are left over, joined
joined-left_over : (bytes : List ℕ) (pieces : List (List ℕ)) → joined (left_over bytes pieces) ≡ bytes ++ joined pieces
joined-left_over [] pieces = refl
joined-left_over (b ∷ bs) pieces = refl

-- empty pieces add nothing
pub joined-nonempty : (pieces : List (List ℕ)) → joined (nonempty pieces) ≡ joined pieces
joined-nonempty [] = refl
joined-nonempty (piece ∷ pieces) = rw (joined-left_over piece (nonempty pieces), joined-nonempty pieces) refl

-- the first n bytes of the first piece, and then what is left
pub joined-without_front : (n : ℕ) (pieces : List (List ℕ)) → joined pieces ≡ take n (front_piece pieces) ++ joined (without_front n pieces)
joined-without_front n [] = rw (take-nil n) refl
joined-without_front n (piece ∷ pieces) =
    rw (joined-left_over (drop n piece) pieces, ← append_assoc (take n piece) (drop n piece) (joined pieces), take-append-drop n piece) refl

-- what a read gave into the front of its slice, and what is to come after it
pub rest_after : (pieces now : List (List ℕ)) (into old : List ℕ) (n : ℕ) → n ≤ length (front_piece pieces) → into ≡ take n (front_piece pieces) ++ drop n old → now ≡ without_front n pieces → Some (joined pieces) ≡ Some (take n into ++ joined now)
rest_after pieces now into old n bound bytes left =
    let given : take n into ≡ take n (front_piece pieces) = rw bytes (grind (arith, common_steps)) in
    rw (given, left) (ap Some (joined-without_front n pieces))
