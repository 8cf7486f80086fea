-- Lines that are printed one after another.
use Rattle.std.proofs.Common.{◌≡◌, ◌<◌, ◌≤◌, ◌+◌, ℕ, true, cond, List, [], ◌∷◌, ◌++◌, length, map, flat_map, take, get_or, refl, sym, ap, ◌∙◌, append-nil}
use Rattle.std.proofs.lemmas.List.{take_more, take_all}
use Rattle.std.proofs.lemmas.List.Concat.{flat_map-append}
use Rattle.ff_lattice.specs.Order.{Order}
use Rattle.ff_printing.specs.Pieces.{Prints}
use Rattle.ff_printing.specs.declared.printer.Printer.{Printer}
use Rattle.ff_printing.proofs.Printing.{then, prints_as}
use Rattle.ff_value.specs.declared.ids.NodeId.{NodeId}
use Rattle.ff_machine.specs.Shapes.{may_have_children}
use Rattle.ff_machine.specs.declared.records.Shape.{Shape}
use Rattle.ff_saved_rows.specs.declared.row.Row.TheVariants as row
use Rattle.ff_saved_rows.specs.Rows.{row_text, row_line, rows_text}
use Rattle.ff_saved_rows.specs.declared.row.Row.{Row}

module _ {X : Type 0} (make : X → Row) (order : Order) where
  -- the lines of the first of some things
  abbrev pub lines_of : List X → List ℕ
  lines_of xs = flat_map (λ x. row_line order (make x)) xs

  pub line_more : {p q r s : Printer} (xs : List X) (i : ℕ) (x : X) → i < length xs → x ≡ get_or xs i x
      → Prints p q (lines_of (take i xs)) → Prints q r (row_text order (make x)) → Prints r s (10 ∷ []) → Prints p s (lines_of (take (i + 1) xs))
  line_more xs i x inside is before here end =
      prints_as (lines_of (take (i + 1) xs))
      (ap lines_of (take_more xs i x inside)
      ∙ flat_map-append (λ y. row_line order (make y)) (take i xs) (get_or xs i x ∷ [])
      ∙ ap (λ bs. lines_of (take i xs) ++ bs) (append-nil (row_line order (make (get_or xs i x))) ∙ ap (λ y. row_line order (make y)) (sym is)))
      (then before (then here end))

  each_line : (xs : List X) → rows_text order (map make xs) ≡ lines_of xs
  each_line [] = refl
  each_line (x ∷ xs) = ap (λ bs. row_line order (make x) ++ bs) (each_line xs)

  pub all_lines : {p q : Printer} (xs : List X) (i : ℕ) → length xs ≤ i → Prints p q (lines_of (take i xs)) → Prints p q (rows_text order (map make xs))
  all_lines xs i end printed = prints_as (rows_text order (map make xs)) (each_line xs ∙ ap lines_of (sym (take_all i xs end))) printed

-- the line of children, where the kind may have some
pub kids_line : {p q r : Printer} (order : Order) (shape : Shape) (kids : List NodeId) → may_have_children shape ≡ true → Prints p q (row_text order (row.Kids kids)) → Prints q r (10 ∷ [])
    → Prints p r (rows_text order (cond (may_have_children shape) (row.Kids kids ∷ []) []))
kids_line order shape kids may here end =
    prints_as (rows_text order (cond (may_have_children shape) (row.Kids kids ∷ []) []))
    (ap (λ b. rows_text order (cond b (row.Kids kids ∷ []) [])) may ∙ append-nil (row_line order (row.Kids kids)))
    (then here end)
