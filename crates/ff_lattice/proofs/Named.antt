-- Which level a name belongs to: the first place at which it stands.
use Rattle.std.proofs.Common.{◌≡◌, ◌≢◌, ℕ, zero, suc, ◌+◌, ◌<◌, List, [], ◌∷◌, length, get_or, Option, Some, None, option_map, Bool, true, false, cond, refl, sym, ap, ◌∙◌, arith, bytes_eq}
use Rattle.std.specs.List.{position_from}
use Rattle.std.proofs.lemmas.Bool.{false_from_ne_true}
use Rattle.std.proofs.lemmas.Slice.Eq.{bytes_eq-Decides}
use Rattle.ff_name.specs.declared.levels.Level.{Level}
use Rattle.ff_lattice.specs.Order.{Order, size, name, numbered, level_named, IsTag, IsOrder}

place_or : ℕ → Option ℕ → ℕ
place_or n None = n
place_or n (Some place) = place

module _ {X : Type 0} (test : X → Bool) where
  place_found : (start : ℕ) (xs : List X) (place : ℕ) (d : X) → place < length xs → test (get_or xs place d) ≡ true → ((k : ℕ) → k < place → test (get_or xs k d) ≡ false)
      → position_from test start xs ≡ Some (start + place)
  place_found start [] place d within here before = absurd (omega arith)
  place_found start (x ∷ xs) zero d within here before = ap (λ b. cond b (Some start) (position_from test (start + 1) xs)) here ∙ ap Some (omega arith)
  place_found start (x ∷ xs) (suc place) d within here before =
      ap (λ b. cond b (Some start) (position_from test (start + 1) xs)) (before 0 (omega arith))
      ∙ place_found (start + 1) xs place d (omega arith) here (λ k less. before (suc k) (omega arith))
      ∙ ap Some (omega arith)

  no_place : (start : ℕ) (xs : List X) (d : X) → ((k : ℕ) → k < length xs → test (get_or xs k d) ≡ false) → position_from test start xs ≡ None
  no_place start [] d none = refl
  no_place start (x ∷ xs) d none =
      ap (λ b. cond b (Some start) (position_from test (start + 1) xs)) (none 0 (omega arith))
      ∙ no_place (start + 1) xs d (λ k less. none (suc k) (omega arith))

  place_within : (start : ℕ) (xs : List X) (place : ℕ) → position_from test start xs ≡ Some place → place < start + length xs
  unfolding place_or
  place_within start [] place is = absurd (let no : None ≡ Some place = is in cc)
  place_within start (x ∷ xs) place is = go (test x) refl (place_within (start + 1) xs place)
    where
      go : (b : Bool) → test x ≡ b → (position_from test (start + 1) xs ≡ Some place → place < start + 1 + length xs) → place < start + length (x ∷ xs)
      go true here rest = let same : start ≡ place = ap (place_or 0) (sym (ap (λ b. cond b (Some start) (position_from test (start + 1) xs)) here) ∙ is) in omega arith
      go false later rest =
          let less : place < start + 1 + length xs = rest (sym (ap (λ b. cond b (Some start) (position_from test (start + 1) xs)) later) ∙ is) in
          omega arith

-- the level that has the name
pub level_found : (order : Order) (text : List ℕ) (level : Level) → IsOrder order → level.0 < size order → name order level.0 ≡ text → level_named order text ≡ Some level
level_found order text level valid within is =
    ap (option_map numbered) (place_found (λ one. bytes_eq one text) 0 order.names level.0 [] within ((bytes_eq-Decides (name order level.0) text).1 is) (λ k less.
    false_from_ne_true (bytes_eq (name order k) text) (λ same.
    let equal : k ≡ level.0 = valid.apart k level.0 (omega arith) within ((bytes_eq-Decides (name order k) text).0 same ∙ sym is) in omega (arith, equal, less)))
    ∙ ap Some (let from_zero : 0 + level.0 ≡ level.0 = omega arith in from_zero))

-- and where no level has it, there is none
pub no_level_found : (order : Order) (text : List ℕ) → ((l : ℕ) → l < size order → name order l ≢ text) → level_named order text ≡ None
no_level_found order text none =
    ap (option_map numbered) (no_place (λ one. bytes_eq one text) 0 order.names [] (λ k less. false_from_ne_true (bytes_eq (name order k) text) (λ same. none k less ((bytes_eq-Decides (name order k) text).0 same))))

-- a level that is named is one of the order
pub level_within : (order : Order) (text : List ℕ) → IsTag order (level_named order text)
level_within order text = go (position_from (λ one. bytes_eq one text) 0 order.names) refl
  where
    go : (at : Option ℕ) → position_from (λ one. bytes_eq one text) 0 order.names ≡ at → IsTag order (option_map numbered at)
    go None is = tt
    go (Some place) is = let less : place < 0 + size order = place_within (λ one. bytes_eq one text) 0 order.names place is in omega (arith, less)
