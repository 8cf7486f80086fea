-- The nodes below a branch as its code holds them: a list of handles, each seen as the node behind
-- it.
use Rattle.std.proofs.Common.{◌≡◌, ℕ, suc, ◌+◌, ◌*◌, ◌/◌, ◌%◌, ◌<◌, ◌≤◌, List, [], ◌∷◌, ◌++◌, map, length, get_or, set, ap, sym, refl, add-one, ◌∙◌, arith}
use Rattle.std.specs.Prelude.{Result, Ok, Err, OnOk, OnErr}
use Rattle.std.specs.List.{slice_get, AllZip}
use Rattle.std.proofs.lemmas.List.{length-set, map-set, get_or-map, length-map, map_push, length_push}
use Rattle.std.proofs.lemmas.List.Elements.{All-get_or, All-set, All-push}
use Rattle.ff_cow.specs.Nodes.{cells_of, AreNodes}
use Rattle.ff_cow.specs.Edits.{edited_at}
use Rattle.ff_cow.proofs.Edits.{some_cell, edited_at-cell}
use Rattle.ff_cow.proofs.Packed.{length-kid, kid_fits, IsPacked-set, cells_of-set, IsPacked-push}
use Rattle.std.proofs.lemmas.Nat.{div-add-mod', div_below}
use Rattle.ff_cow.proofs.Places.{IsPlace, IsEnd, place_at, end_at, some_room, last_node, full_row}

-- what holds after either answer
pub from_either : {X E P A B : Type 0} (r : Result X E) → OnOk r A → OnErr r B → (A → P) → (B → P) → P
from_either (Ok _) a b after_ok after_err = after_ok a
from_either (Err _) a b after_ok after_err = after_err b

-- the handles of a copied list hold the same nodes
pub same_nodes : {H T : Type 0} (value : H → T) (kids copies : List H) → AllZip (λ kid copy. value copy ≡ value kid) kids copies → map value copies ≡ map value kids
same_nodes value [] [] same = refl
same_nodes value [] (copy ∷ copies) same = absurd same
same_nodes value (kid ∷ kids) [] same = absurd same
same_nodes value (kid ∷ kids) (copy ∷ copies) same =
    ap (λ x. x ∷ map value copies) same.0 ∙ ap (λ xs. value kid ∷ xs) (same_nodes value kids copies same.1)

module _ {H T V : Type 0} (value : H → T) (cells : T → List V) (is_valid : T → Type 0) (r : ℕ) (kids : List H) (nodes : AreNodes r cells is_valid (map value kids)) where
  -- the node behind the k-th handle
  named : (k : ℕ) (kid : H) → k < length kids → kid ≡ get_or kids k kid → get_or (map value kids) k (value kid) ≡ value kid
  named k kid h is = get_or-map value kids k kid (value kid) h ∙ sym (ap value is)

  valid_at : (k : ℕ) (kid : H) → k < length kids → kid ≡ get_or kids k kid → is_valid (value kid)
  valid_at k kid h is =
      let inside : k < length (map value kids) = rw length-map h in
      rw (named k kid h is) at (All-get_or is_valid (map value kids) k (value kid) inside nodes.valid)

  -- one node in place of another
  nodes-put : (k : ℕ) (own : H) → is_valid (value own) → length (cells (value own)) ≤ r → (suc k < length kids → length (cells (value own)) ≡ r) → AreNodes r cells is_valid (map value (set kids k own))
  nodes-put k own valid fits full =
      rw map-set record {
        narrow = rw length-set nodes.narrow;
        valid = All-set is_valid (map value kids) k (value own) valid nodes.valid;
        packed = IsPacked-set cells r (map value kids) k (value own) nodes.packed fits (λ more. full (rw length-map at more));
      }

  -- one node in place of another with as many cells
  nodes-set : (k : ℕ) (kid own : H) → k < length kids → kid ≡ get_or kids k kid → is_valid (value own) → length (cells (value own)) ≡ length (cells (value kid)) → AreNodes r cells is_valid (map value (set kids k own))
  nodes-set k kid own h is valid same =
      let inside : k < length (map value kids) = rw length-map h in
      let is_kid = named k kid h is in
      let fits = rw is_kid at (kid_fits cells r (map value kids) k (value kid) nodes.packed inside) in
      nodes-put k own valid (omega arith) (λ more.
      let more_nodes : suc k < length (map value kids) = rw length-map more in
      same ∙ (rw is_kid at (length-kid cells r (map value kids) k (value kid) nodes.packed more_nodes)))

  module _ (room i : ℕ) (sixteenth : room ≡ 16 * r) (within : i < length (cells_of cells (map value kids))) where
    kid_room : room / 16 ≡ r
    kid_room = omega arith

    pub some_kid_room : 0 < room / 16
    some_kid_room = rw kid_room (some_room cells r (map value kids) nodes.packed i within)

    found : IsPlace cells (map value kids) i (i / (room / 16)) (i % (room / 16))
    found = rw kid_room (place_at cells r (map value kids) nodes.packed i within)

    pub below : i / (room / 16) < length kids
    below = rw length-map at found.below

    module _ (kid : H) (is : kid ≡ get_or kids (i / (room / 16)) kid) where
      is_kid : get_or (map value kids) (i / (room / 16)) (value kid) ≡ value kid
      is_kid = named (i / (room / 16)) kid below is

      pub valid : is_valid (value kid)
      valid = valid_at (i / (room / 16)) kid below is

      pub within_kid : i % (room / 16) < length (cells (value kid))
      within_kid = rw is_kid at (found.within (value kid))

      pub reads : slice_get (cells_of cells (map value kids)) i ≡ slice_get (cells (value kid)) (i % (room / 16))
      reads = rw is_kid at (found.reads (value kid))

      module _ (own : H) where
        pub writes : (v : V) → cells (value own) ≡ set (cells (value kid)) (i % (room / 16)) v → cells_of cells (map value (set kids (i / (room / 16)) own)) ≡ set (cells_of cells (map value kids)) i v
        writes v written =
            rw map-set (found.writes (value kid) (value own) v (rw is_kid written))

        pub edits : (f : V → V) → cells (value own) ≡ edited_at f (i % (room / 16)) (cells (value kid)) → cells_of cells (map value (set kids (i / (room / 16)) own)) ≡ edited_at f i (cells_of cells (map value kids))
        edits f edited =
            some_cell (cells (value kid)) (i % (room / 16)) within_kid (λ cell is.
            writes (f cell) (edited ∙ edited_at-cell f _ _ cell is) ∙ sym (edited_at-cell f (cells_of cells (map value kids)) i cell (reads ∙ is)))

        pub keeps : cells (value own) ≡ cells (value kid) → cells_of cells (map value (set kids (i / (room / 16)) own)) ≡ cells_of cells (map value kids)
        keeps same =
            let inside : i / (room / 16) < length (map value kids) = rw length-map below in
            rw map-set (cells_of-set cells r (map value kids) (i / (room / 16)) (value kid) (value own) inside (rw is_kid same))

        pub nodes-after : is_valid (value own) → length (cells (value own)) ≡ length (cells (value kid)) → AreNodes r cells is_valid (map value (set kids (i / (room / 16)) own))
        nodes-after = nodes-set (i / (room / 16)) kid own below is

  -- room for the next cell: the last node has it, or a new one does
  module _ (room count : ℕ) (is_room : room ≡ r) (counted : count ≡ length (cells_of cells (map value kids))) (space : count < 16 * room) where
    some : 0 < r
    some = omega arith

    pub row : (count / room ≡ length kids → ⊥) → length kids ≡ count / room + 1
    row other =
        rw (is_room, counted, add-one) (rw length-map at (last_node cells r (map value kids) nodes.packed some (λ all.
        other (rw (is_room, counted) (all ∙ length-map _ _)))))

    pub nodes-push : (own : H) → count / room ≡ length kids → is_valid (value own) → cells (value own) ≡ [] → AreNodes r cells is_valid (map value (kids ++ own ∷ []))
    nodes-push own all valid none =
        let below : count / room < 16 = div_below count room 16 (omega arith) space in
        let full = full_row cells r (map value kids) nodes.packed some (rw (← is_room, ← counted, length-map) all) in
        let no_cells = ap length none in
        rw map_push record {
          narrow = rw (length_push, length-map) (omega arith);
          valid = All-push is_valid (map value kids) (value own) nodes.valid valid;
          packed = IsPacked-push cells r (map value kids) (value own) nodes.packed full (omega arith);
        }

  -- the end: the next cell goes into the last node
  module _ (room count : ℕ) (is_room : room ≡ r) (counted : count ≡ length (cells_of cells (map value kids))) (row : length kids ≡ count / room + 1) where
    ends : IsEnd cells (map value kids) (count / room) (count % room)
    ends =
        let place : count / room * r + count % room ≡ count = rw (← is_room) (div-add-mod' count room) in
        end_at cells r (map value kids) nodes.packed (count / room) (count % room) (place ∙ counted) (rw length-map (omega arith))

    pub end_below : count / room < length kids
    end_below = omega arith

    module _ (kid : H) (is : kid ≡ get_or kids (count / room) kid) where
      end_is : get_or (map value kids) (count / room) (value kid) ≡ value kid
      end_is = named (count / room) kid end_below is

      pub end_valid : is_valid (value kid)
      end_valid = valid_at (count / room) kid end_below is

      pub end_count : count % room ≡ length (cells (value kid))
      end_count = sym (rw end_is at (ends.count (value kid)))

      module _ (own : H) where
        pub grows : (v : V) → cells (value own) ≡ cells (value kid) ++ v ∷ [] → cells_of cells (map value (set kids (count / room) own)) ≡ cells_of cells (map value kids) ++ v ∷ []
        grows v grown = rw map-set (ends.grows (value kid) (value own) v (rw end_is grown))

        pub end_keeps : cells (value own) ≡ cells (value kid) → cells_of cells (map value (set kids (count / room) own)) ≡ cells_of cells (map value kids)
        end_keeps same =
            let inside : count / room < length (map value kids) = rw length-map end_below in
            rw map-set (cells_of-set cells r (map value kids) (count / room) (value kid) (value own) inside (rw end_is same))

        pub nodes-grown : is_valid (value own) → length (cells (value own)) ≤ r → AreNodes r cells is_valid (map value (set kids (count / room) own))
        nodes-grown valid fits = nodes-put (count / room) own valid fits (λ more. absurd (omega arith))
