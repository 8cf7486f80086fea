-- The rows of stores, printed number by number.
use Rattle.std.proofs.Common.{◌≡◌, ◌<◌, ◌≤◌, ◌+◌, ℕ, List, [], ◌∷◌, ◌++◌, length, map, flat_map, take, get_or, refl, sym, ap, subst, ◌∙◌, append-nil}
use Rattle.std.proofs.Math.ListN.{get_or-map}
use Rattle.std.proofs.lemmas.List.{take_more, take_all, length-map}
use Rattle.std.proofs.lemmas.List.Concat.{flat_map-append}
use Rattle.ff_lattice.specs.Order.{Order}
use Rattle.ff_printing.specs.Pieces.{Prints}
use Rattle.ff_printing.specs.declared.printer.Printer.{Printer}
use Rattle.ff_printing.proofs.Printing.{then, prints_as}
use Rattle.ff_saved_rows.specs.Rows.{row_line, rows_text}
use Rattle.ff_saved_rows.specs.declared.row.Row.{Row}

-- rows that are printed one after another
pub rows_then : {p q r : Printer} (order : Order) (xs ys : List Row) → Prints p q (rows_text order xs) → Prints q r (rows_text order ys) → Prints p r (rows_text order (xs ++ ys))
rows_then order xs ys first second = prints_as (rows_text order (xs ++ ys)) (flat_map-append (row_line order) xs ys) (then first second)

pub one_row : {p q : Printer} (order : Order) (row : Row) → Prints p q (row_line order row) → Prints p q (rows_text order (row ∷ []))
one_row order row prints = prints_as (rows_text order (row ∷ [])) (append-nil (row_line order row)) prints

-- the rows of one thing more
module _ {X : Type 0} (rows : X → List Row) (order : Order) where
  pub rows_more : {p q r : Printer} (xs : List X) (i : ℕ) (x d : X) → i < length xs → x ≡ get_or xs i d
      → Prints p q (rows_text order (flat_map rows (take i xs))) → Prints q r (rows_text order (rows x)) → Prints p r (rows_text order (flat_map rows (take (i + 1) xs)))
  rows_more xs i x d inside is before here =
      prints_as (rows_text order (flat_map rows (take (i + 1) xs)))
      (ap (λ ys. rows_text order (flat_map rows ys)) (take_more xs i d inside)
      ∙ ap (rows_text order) (flat_map-append rows (take i xs) (get_or xs i d ∷ []))
      ∙ flat_map-append (row_line order) (flat_map rows (take i xs)) (flat_map rows (get_or xs i d ∷ []))
      ∙ ap (λ ys. rows_text order (flat_map rows (take i xs)) ++ rows_text order ys) (append-nil (rows (get_or xs i d)) ∙ ap rows (sym is)))
      (then before here)

  pub rows_all : {p q : Printer} (xs : List X) (i : ℕ) → length xs ≤ i → Prints p q (rows_text order (flat_map rows (take i xs))) → Prints p q (rows_text order (flat_map rows xs))
  rows_all xs i end printed = prints_as (rows_text order (flat_map rows xs)) (ap (λ ys. rows_text order (flat_map rows ys)) (sym (take_all i xs end))) printed

  -- where the things are records, one for each of a list
  module _ {A : Type 0} (rec : A → X) (d : A) where
    pub rec_more : {p q r : Printer} (given : List A) (i : ℕ) (x : X) → i < length given → x ≡ rec (get_or given i d)
        → Prints p q (rows_text order (flat_map rows (take i (map rec given)))) → Prints q r (rows_text order (rows x)) → Prints p r (rows_text order (flat_map rows (take (i + 1) (map rec given))))
    rec_more given i x inside is before here = rows_more (map rec given) i x (rec d) (subst (λ n. i < n) (sym (length-map given rec)) inside) (is ∙ sym (get_or-map rec given i d)) before here

    pub rec_all : {p q : Printer} (given : List A) (i : ℕ) → length given ≤ i → Prints p q (rows_text order (flat_map rows (take i (map rec given)))) → Prints p q (rows_text order (flat_map rows (map rec given)))
    rec_all given i end printed = rows_all (map rec given) i (subst (λ n. n ≤ i) (sym (length-map given rec)) end) printed

-- one row for each is the same as a list of one row for each
single : {X : Type 0} (make : X → Row) (xs : List X) → map make xs ≡ flat_map (λ x. make x ∷ []) xs
single make [] = refl
single make (x ∷ xs) = ap (λ ys. make x ∷ ys) (single make xs)

pub single_rows : {p q : Printer} {X : Type 0} (make : X → Row) (order : Order) (xs : List X) → Prints p q (rows_text order (flat_map (λ x. make x ∷ []) xs)) → Prints p q (rows_text order (map make xs))
single_rows make order xs printed = prints_as (rows_text order (map make xs)) (ap (rows_text order) (single make xs)) printed
