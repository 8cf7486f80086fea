-- Rows whose text is that of rows that fit lines fit lines.
use Rattle.std.proofs.Common.{◌≡◌, ◌≤◌, List, [], ◌∷◌, length, All, sym, ap, subst, ◌∙◌, arith}
use Rattle.std.proofs.lemmas.List.Elements.{All-nil, All-cons, All-head, All-tail}
use Rattle.ff_io.specs.Cutting.{content, after_line}
use Rattle.ff_lattice.specs.Order.{Order}
use Rattle.ff_text.specs.Printed.{AreWellSpelled}
use Rattle.ff_text.specs.declared.reading.TheConstants.{MOST_BYTES}
use Rattle.ff_text.proofs.Nesting.{AreShallow, no_lines_shallow, line_shallow, line_fits}
use Rattle.ff_saved_rows.specs.Rows.{row_items, row_text, rows_text, IsRow, FitsLine}
use Rattle.ff_saved_rows.specs.declared.row.Row.{Row}
use Rattle.ff_saved_rows.proofs.Formed.{row_formed}
use Rattle.ff_save.proofs.Texts.{first_line, later_lines, some_text}

-- the text of rows that fit lines is shallow
all_shallow : (order : Order) (rows : List Row) → All (FitsLine order) rows → AreShallow (rows_text order rows)
all_shallow order [] fit = no_lines_shallow
all_shallow order (one ∷ rows) fit = line_shallow (row_items order one) (All-head (FitsLine order) one rows fit).nested (rows_text order rows) (all_shallow order rows (All-tail (FitsLine order) one rows fit))

-- and where the text of rows is, the lists in none of them nest too deep
all_nested : (order : Order) (rows : List Row) → All (IsRow order) rows → AreShallow (rows_text order rows) → All (λ one. AreWellSpelled (row_items order one)) rows
all_nested order [] are shallow = All-nil (λ one. AreWellSpelled (row_items order one))
all_nested order (one ∷ rows) are shallow =
    let here = line_fits (row_items order one) (row_formed order one (All-head (IsRow order) one rows are)) (rows_text order rows) shallow in
    All-cons (λ one. AreWellSpelled (row_items order one)) one rows here.0 (all_nested order rows (All-tail (IsRow order) one rows are) here.1)

-- lines of the same text are as long
as_short : (order : Order) (xs ys : List Row) → rows_text order xs ≡ rows_text order ys → All (λ one. AreWellSpelled (row_items order one)) xs → All (FitsLine order) ys → All (λ one. length (row_text order one) ≤ MOST_BYTES) xs
as_short order [] ys same nested fit = All-nil (λ one. length (row_text order one) ≤ MOST_BYTES)
as_short order (x ∷ xs) [] same nested fit = let some = some_text order x xs in absurd (omega (arith, some, ap length same))
as_short order (x ∷ xs) (y ∷ ys) same nested fit =
    let in_x = All-head (λ one. AreWellSpelled (row_items order one)) x xs nested in
    let in_y = All-head (FitsLine order) y ys fit in
    let line : row_text order y ≡ row_text order x = sym (first_line order y ys in_y.nested) ∙ ap content (sym same) ∙ first_line order x xs in_x in
    let rest : rows_text order xs ≡ rows_text order ys = sym (later_lines order x xs in_x) ∙ ap after_line same ∙ later_lines order y ys in_y.nested in
    All-cons (λ one. length (row_text order one) ≤ MOST_BYTES) x xs (subst (λ bs. length bs ≤ MOST_BYTES) line in_y.short)
    (as_short order xs ys rest (All-tail (λ one. AreWellSpelled (row_items order one)) x xs nested) (All-tail (FitsLine order) y ys fit))

-- rows whose text is that of rows that fit lines fit lines
pub all_fit : (order : Order) (xs ys : List Row) → rows_text order xs ≡ rows_text order ys → All (IsRow order) xs → All (FitsLine order) ys → All (FitsLine order) xs
all_fit order xs ys same are fit =
    let nested = all_nested order xs are (subst AreShallow (sym same) (all_shallow order ys fit)) in
    let short = as_short order xs ys same nested fit in
    λ i d inside. record { short = short i d inside; nested = nested i d inside }
