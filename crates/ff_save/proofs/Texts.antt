-- The lines of a text that rows are printed as.
use Rattle.std.proofs.Common.{◌≡◌, ◌≢◌, ◌<◌, ◌≤◌, ◌==◌, ℕ, Bool, true, false, cond, Some, Result, Ok, List, [], ◌∷◌, ◌++◌, length, All, refl, sym, ap, ap₂, subst, ◌∙◌, arith, append_assoc}
use Rattle.std.proofs.lemmas.Bool.{eq-eqb, eqb-true, ne_eqb}
use Rattle.std.proofs.lemmas.List.{length-append}
use Rattle.std.proofs.lemmas.List.Elements.{All-nil, All-cons, All-head, All-tail}
use Rattle.ff_io.specs.Cutting.{content, after_line}
use Rattle.ff_lattice.specs.Order.{Order}
use Rattle.ff_text.specs.Printed.{AreWellSpelled}
use Rattle.ff_trace.specs.declared.fault.LineFault.{LineFault}
use Rattle.ff_text.specs.declared.reading.TheConstants.{MOST_BYTES}
use Rattle.ff_saved_rows.specs.Drafting.{and_then}
use Rattle.ff_saved_rows.specs.Reading.{ReadsRow}
use Rattle.ff_saved_rows.specs.Rows.{row_items, row_text, rows_text, IsRow, FitsLine}
use Rattle.ff_saved_rows.specs.declared.row.Row.{Row}
use Rattle.ff_saved_rows.proofs.Nested.{IsOneLine, row_one_line}
use Rattle.ff_saved_rows.proofs.Once.{reads_row_once}
use Rattle.ff_saved_rows.proofs.Rereading.{line_again}
use Rattle.ff_saved_rows.proofs.Shallow.{IsShallow, read_shallow}
use Rattle.ff_save.specs.Gathered.{Gathered, no_classes, gathered_all, ReadsRows, no_line, one_line, IsTextOf, IsNoText}
use Rattle.ff_save.specs.Holding.{Held, Holds, IsStuck, IsLineOf, HasLine, HasText}
use Rattle.ff_save.proofs.Grown.{stuck_fails}

-- the first line, and what comes after it, where a line is followed by its newline
content_of : (line rest : List ℕ) → IsOneLine line → content (line ++ 10 ∷ rest) ≡ line
content_of [] rest one = refl
content_of (b ∷ line) rest one =
    ap (λ t. cond t [] (b ∷ content (line ++ 10 ∷ rest))) (ne_eqb b 10 (All-head (λ c. c ≢ 10) b line one))
    ∙ ap (λ bs. b ∷ bs) (content_of line rest (All-tail (λ c. c ≢ 10) b line one))

after_of : (line rest : List ℕ) → IsOneLine line → after_line (line ++ 10 ∷ rest) ≡ rest
after_of [] rest one = refl
after_of (b ∷ line) rest one =
    ap (λ t. cond t (line ++ 10 ∷ rest) (after_line (line ++ 10 ∷ rest))) (ne_eqb b 10 (All-head (λ c. c ≢ 10) b line one))
    ∙ after_of line rest (All-tail (λ c. c ≢ 10) b line one)

-- the text of a row and others
text_is : (order : Order) (one : Row) (rows : List Row) → rows_text order (one ∷ rows) ≡ row_text order one ++ 10 ∷ rows_text order rows
text_is order one rows = append_assoc (row_text order one) (10 ∷ []) (rows_text order rows)

pub first_line : (order : Order) (one : Row) (rows : List Row) → AreWellSpelled (row_items order one) → content (rows_text order (one ∷ rows)) ≡ row_text order one
first_line order one rows nested = ap content (text_is order one rows) ∙ content_of (row_text order one) (rows_text order rows) (row_one_line order one nested)

pub later_lines : (order : Order) (one : Row) (rows : List Row) → AreWellSpelled (row_items order one) → after_line (rows_text order (one ∷ rows)) ≡ rows_text order rows
later_lines order one rows nested = ap after_line (text_is order one rows) ∙ after_of (row_text order one) (rows_text order rows) (row_one_line order one nested)

pub some_text : (order : Order) (one : Row) (rows : List Row) → 0 < length (rows_text order (one ∷ rows))
some_text order one rows = omega (arith, ap length (text_is order one rows) ∙ length-append (row_text order one) (10 ∷ rows_text order rows))

-- a text that is that of rows, cut after its first line
record CutText (order : Order) (bytes : List ℕ) (rows : List Row) : Type 0 where
  one : Row
  others : List Row
  are : rows ≡ one ∷ others
  line : IsLineOf order (content bytes) one
  rest : IsTextOf order (after_line bytes) others

cut_text : (order : Order) (bytes : List ℕ) (rows : List Row) → 0 < length bytes → IsTextOf order bytes rows → CutText order bytes rows
cut_text order bytes [] some text = absurd (omega (arith, some, ap length text.text))
cut_text order bytes (one ∷ others) some text =
    let fits = All-head (FitsLine order) one others text.fit in
    record {
      one = one;
      others = others;
      are = refl;
      line = (All-head (IsRow order) one others text.spelled, fits, ap content text.text ∙ first_line order one others fits.nested);
      rest = record {
        spelled = All-tail (IsRow order) one others text.spelled;
        fit = All-tail (FitsLine order) one others text.fit;
        text = ap after_line text.text ∙ later_lines order one others fits.nested;
      };
    }

no_text : (order : Order) (bytes : List ℕ) (rows : List Row) → length bytes ≡ 0 → IsTextOf order bytes rows → rows ≡ []
no_text order bytes [] none text = refl
no_text order bytes (one ∷ others) none text = let some = some_text order one others in absurd (omega (arith, some, none, ap length text.text))

-- a line is that of one row
line_once : (order : Order) (line : List ℕ) (a b : Row) → IsLineOf order line a → IsLineOf order line b → a ≡ b
line_once order line a b first second =
    let same : ◌≡◌ {A = Result Row LineFault} (Ok a) (Ok b) =
    reads_row_once order line (Ok a) (Ok b) (subst (λ l. ReadsRow order l (Ok a)) (sym first.2) (line_again order a first.0 first.1)) (subst (λ l. ReadsRow order l (Ok b)) (sym second.2) (line_again order b second.0 second.1)) in
    cc

-- and a text of one list of rows
pub rows_once : (order : Order) (bytes : List ℕ) (xs ys : List Row) → IsTextOf order bytes xs → IsTextOf order bytes ys → xs ≡ ys
rows_once order bytes [] ys first second = sym (no_text order bytes ys (ap length first.text) second)
rows_once order bytes (x ∷ xs) ys first second =
    let fits = All-head (FitsLine order) x xs first.fit in
    let line : IsLineOf order (content bytes) x = (All-head (IsRow order) x xs first.spelled, fits, ap content first.text ∙ first_line order x xs fits.nested) in
    let rest : IsTextOf order (after_line bytes) xs = record {
      spelled = All-tail (IsRow order) x xs first.spelled;
      fit = All-tail (FitsLine order) x xs first.fit;
      text = ap after_line first.text ∙ later_lines order x xs fits.nested;
    } in
    let cut = cut_text order bytes ys (subst (λ bs. 0 < length bs) (sym first.text) (some_text order x xs)) second in
    ap₂ (λ one more. one ∷ more) (line_once order (content bytes) x cut.one line cut.line) (rows_once order (after_line bytes) xs cut.others rest cut.rest) ∙ sym cut.are

-- the rows that were read nest no deeper than their lines
pub all_read_shallow : (order : Order) (bytes : List ℕ) (rows : List Row) → ReadsRows order bytes rows → All IsShallow rows
all_read_shallow order _ _ no_line = All-nil IsShallow
all_read_shallow order _ _ (one_line bytes one rows some short reads rest) = All-cons IsShallow one rows (read_shallow order (content bytes) one reads) (all_read_shallow order (after_line bytes) rows rest)

-- the lines that were read were short
pub lines_short : (order : Order) (bytes : List ℕ) (read rows : List Row) → ReadsRows order bytes read → bytes ≡ rows_text order rows → All (λ one. AreWellSpelled (row_items order one)) rows → All (λ one. length (row_text order one) ≤ MOST_BYTES) rows
lines_short order bytes read [] reads text nested = All-nil (λ one. length (row_text order one) ≤ MOST_BYTES)
lines_short order _ _ (one ∷ rows) no_line text nested = let some = some_text order one rows in absurd (omega (arith, some, ap length text))
lines_short order _ _ (one ∷ rows) (one_line bytes first others some short reads rest) text nested =
    let here = All-head (λ r. AreWellSpelled (row_items order r)) one rows nested in
    let line : content bytes ≡ row_text order one = ap content text ∙ first_line order one rows here in
    All-cons (λ r. length (row_text order r) ≤ MOST_BYTES) one rows (subst (λ bs. length bs ≤ MOST_BYTES) line short)
    (lines_short order (after_line bytes) others rows rest (ap after_line text ∙ later_lines order one rows here) (All-tail (λ r. AreWellSpelled (row_items order r)) one rows nested))

-- What was read of a text, line by line.
pub record IsReading (order : Order) (fuel : ℕ) (bytes : List ℕ) (held : Held) (rest : List ℕ) : Type 0 where
  pub before : List Row
  pub so_far : Gathered
  pub holds : Holds fuel so_far held
  pub reads : (rows : List Row) → ReadsRows order rest rows → ReadsRows order bytes (before ++ rows)
  pub gathers : (rows : List Row) → gathered_all no_classes (before ++ rows) ≡ gathered_all so_far rows
  pub only : (others : List Row) → IsTextOf order bytes others → (later : List Row) × (others ≡ before ++ later) × IsTextOf order rest later

pub reading_none : (order : Order) (fuel : ℕ) (bytes : List ℕ) (held : Held) → Holds fuel no_classes held → IsReading order fuel bytes held bytes
reading_none order fuel bytes held holds = record { before = []; so_far = no_classes; holds = holds; reads = λ rows reads. reads; gathers = λ rows. refl; only = λ others text. (others, refl, text) }

pub reading_more : (order : Order) (fuel : ℕ) (bytes : List ℕ) (held new : Held) (rest line more : List ℕ) → (is : IsReading order fuel bytes held rest) → 0 < length rest → line ≡ content rest → more ≡ after_line rest
    → HasLine order fuel is.so_far line new → IsReading order fuel bytes new more
reading_more order fuel bytes held new rest line more is some line_is more_is has = record {
  before = is.before ++ has.one ∷ [];
  so_far = has.added.more;
  holds = has.added.holds;
  reads = λ rows reads.
      subst (ReadsRows order bytes) (sym (append_assoc is.before (has.one ∷ []) rows))
      (is.reads (has.one ∷ rows) (one_line rest has.one rows some (subst (λ bs. length bs ≤ MOST_BYTES) line_is has.short) (subst (λ bs. ReadsRow order bs (Ok has.one)) line_is has.reads) (subst (λ bs. ReadsRows order bs rows) more_is reads)));
  gathers = λ rows.
      ap (gathered_all no_classes) (append_assoc is.before (has.one ∷ []) rows)
      ∙ is.gathers (has.one ∷ rows)
      ∙ ap (λ o. and_then o (λ next. gathered_all next rows)) has.added.is;
  only = λ others text.
      let found = is.only others text in
      let cut = cut_text order rest found.0 some found.2 in
      let same : cut.one ≡ has.one = has.only cut.one (cut.line.0, cut.line.1, line_is ∙ cut.line.2) in
      (cut.others, found.1 ∙ ap (λ rows. is.before ++ rows) (cut.are ∙ ap (λ one. one ∷ cut.others) same) ∙ sym (append_assoc is.before (has.one ∷ []) cut.others), subst (λ bs. IsTextOf order bs cut.others) (sym more_is) cut.rest);
}

pub reading_stuck : (order : Order) (fuel : ℕ) (bytes : List ℕ) (held : Held) (rest line : List ℕ) → (is : IsReading order fuel bytes held rest) → 0 < length rest → line ≡ content rest
    → ((one : Row) → IsLineOf order line one → IsStuck is.so_far one) → IsNoText order bytes no_classes
reading_stuck order fuel bytes held rest line is some line_is stuck rows all text gathers stored =
    let found = is.only rows text in
    let cut = cut_text order rest found.0 some found.2 in
    let next : gathered_all is.so_far (cut.one ∷ cut.others) ≡ Some all = ap (gathered_all is.so_far) (sym cut.are) ∙ sym (is.gathers found.0) ∙ ap (gathered_all no_classes) (sym found.1) ∙ gathers in
    stuck_fails is.so_far cut.one cut.others all (stuck cut.one (cut.line.0, cut.line.1, line_is ∙ cut.line.2)) next stored

pub reading_done : (order : Order) (fuel : ℕ) (bytes : List ℕ) (held : Held) (rest : List ℕ) → IsReading order fuel bytes held rest → rest ≡ [] → HasText order fuel bytes held
reading_done order fuel bytes held rest is none = record {
  rows = is.before ++ [];
  reads = is.reads [] (subst (λ bs. ReadsRows order bs []) (sym none) no_line);
  all = is.so_far;
  is = is.gathers [];
  holds = is.holds;
  only = λ others text. let found = is.only others text in found.1 ∙ ap (λ rows. is.before ++ rows) (no_text order rest found.0 (ap length none) found.2);
}

-- whether anything is left
pub nothing_left : {X : Type 0} (rest : List X) (empty : Bool) → empty ≡ (length rest == 0) → empty ≡ true → rest ≡ []
nothing_left {X} rest empty is none = from rest (eqb-true (length rest) 0 (sym is ∙ none))
  where
    from : (xs : List X) → length xs ≡ 0 → xs ≡ []
    from [] e = refl
    from (x ∷ xs) e = absurd (omega (arith, e))

pub something_left : {X : Type 0} (rest : List X) (empty : Bool) → empty ≡ (length rest == 0) → empty ≡ false → 0 < length rest
something_left {X} rest empty is some = from rest (λ none. let e : empty ≡ true = is ∙ eq-eqb (length rest) 0 none in cc)
  where
    from : (xs : List X) → (length xs ≡ 0 → ⊥) → 0 < length xs
    from [] e = absurd (e refl)
    from (x ∷ xs) e = omega arith
