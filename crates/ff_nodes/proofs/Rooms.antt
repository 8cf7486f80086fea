-- Room that is left after one document, and after the others.
use Rattle.std.proofs.Common.{◌≡◌, ℕ, suc, ◌+◌, ◌-◌, ◌<◌, ◌≤◌, nat_le, Bool, true, false, cond, Option, Some, None, List, map, length, drop, get_or, drop-cons, arith, refl, sym, ap, ◌∙◌}
use Rattle.std.proofs.lemmas.Bool.Decides.{nat_tests}
use Rattle.std.proofs.lemmas.List.{drop_all}
use Rattle.ff_tree.specs.declared.tree.Doc.{Doc}
use Rattle.ff_value.specs.declared.ids.ActId.{ActId}
use Rattle.ff_machine.specs.Documents.{laid, size_of}
use Rattle.ff_nodes.specs.Room.{room_left}

-- what is left where there is room
pub left_some : (room size : ℕ) → size ≤ room → Some (room - size) ≡ room_left room size
left_some room size le = let e : nat_le size room ≡ true = grind (arith, nat_tests, le) in ap (λ b. cond b (Some (room - size)) None) (sym e)

-- and where there is none
pub left_none : (room size : ℕ) → room < size → None ≡ room_left room size
left_none room size less = let e : nat_le size room ≡ false = grind (arith, nat_tests, less) in ap (λ b. cond b (Some (room - size)) None) (sym e)

-- what is left says how large the size is
pub record IsLeft (room size left : ℕ) : Type 0 where
  pub fits : size ≤ room
  pub rest : left + size ≡ room

-- and how much
pub is_left : (room size left : ℕ) → Some left ≡ room_left room size → IsLeft room size left
is_left room size left e = by (nat_le size room) refl e where
  by : (b : Bool) → nat_le size room ≡ b → Some left ≡ cond b (Some (room - size)) None → IsLeft room size left
  by true t some =
      let le : size ≤ room = grind (arith, nat_tests, t) in
      let same : left ≡ room - size = cc in
      record { fits = le; rest = omega (arith, le, same) }
  by false t none = cc

-- where nothing is left, the size is too large
pub too_large : (room size : ℕ) → None ≡ room_left room size → room < size
too_large room size e = by (nat_le size room) refl e where
  by : (b : Bool) → nat_le size room ≡ b → None ≡ cond b (Some (room - size)) None → room < size
  by true t some = cc
  by false t none = grind (arith, nat_tests, t)

-- after a further size
pub left_more : (room a b left : ℕ) → Some left ≡ room_left room a → room_left left b ≡ room_left room (a + b)
left_more room a b left e =
    let is = is_left room a left e in
    by (nat_le b left) refl is.fits is.rest
  where
    by : (t : Bool) → nat_le b left ≡ t → a ≤ room → left + a ≡ room → cond t (Some (left - b)) None ≡ room_left room (a + b)
    by true t fits rest =
        let le : b ≤ left = grind (arith, nat_tests, t) in
        let same : left - b ≡ room - (a + b) = omega (arith, le, fits, rest) in
        ap (λ k. let o : Option ℕ = Some k in o) same ∙ left_some room (a + b) (omega (arith, le, rest))
    by false t fits rest =
        let less : left < b = grind (arith, nat_tests, t) in
        left_none room (a + b) (omega (arith, less, rest))

-- without room for the first there is none for both
pub none_more : (room a b : ℕ) → None ≡ room_left room a → None ≡ room_left room (a + b)
none_more room a b e = let large = too_large room a e in left_none room (a + b) (omega (arith, large))

-- after one
pub left_one : (room left size : ℕ) → size ≡ 1 → (1 ≤ room) × (left ≡ room - 1) → Some left ≡ room_left room size
left_one room left size one is =
    let less = is.0 in
    let rest = is.1 in
    let same : left ≡ room - size = omega (arith, one, rest) in
    ap (λ k. let o : Option ℕ = Some k in o) same ∙ left_some room size (omega (arith, one, less))

-- after one and the rest
pub left_under : (room left rest size : ℕ) → size ≡ suc rest → (1 ≤ room) × (left ≡ room - 1) → room_left left rest ≡ room_left room size
left_under room left rest size one is =
    let less = is.0 in
    let same = is.1 in
    let first : Some left ≡ room_left room 1 = left_one room left 1 refl is in
    let all : 1 + rest ≡ size = omega (arith, one) in
    left_more room 1 rest left first ∙ ap (room_left room) all

module _ (env : ActId) (docs : List Doc) where
  -- the size of the documents from a place on
  abbrev pub size_from : ℕ → ℕ
  size_from i = size_of (map (laid env) (drop i docs))

  -- is that of the next one and that of those after it
  pub size_next : (i : ℕ) (d : Doc) → i < length docs → d ≡ get_or docs i d → size_from i ≡ (laid env d).size + size_from (i + 1)
  size_next i d here is =
      let next : suc i ≡ i + 1 = omega arith in
      ap (λ ds. size_of (map (laid env) ds)) (drop-cons docs i d here)
      ∙ ap (λ k. (laid env (get_or docs i d)).size + size_from k) next
      ∙ ap (λ e. (laid env e).size + size_from (i + 1)) (sym is)

  pub size_past : (i : ℕ) → length docs ≤ i → size_from i ≡ 0
  size_past i past = ap (λ ds. size_of (map (laid env) ds)) (drop_all i docs past)
