-- The items of a row are well formed, however deep the functions in it nest: words are words, and
-- strings are UTF-8.
use Rattle.std.proofs.Common.{◌≡◌, ℕ, true, Bool, List, [], ◌∷◌, map, codes, refl, ◌∙◌}
use Rattle.std.specs.List.{list_all, AllByRecursion}
use Rattle.std.proofs.lemmas.Bool.{and_from}
use Rattle.ff_name.specs.Spelling.{IsName}
use Rattle.ff_number.specs.Decimal.{nat_text}
use Rattle.ff_tree.specs.Spelled.{IsVar}
use Rattle.ff_value.specs.Spelled.{IsNat, IsWellSpelledCode}
use Rattle.ff_value.specs.declared.value.Code.{Code}
use Rattle.ff_value.specs.declared.value.Val.{Val}
use Rattle.ff_value.specs.declared.value.Val.TheVariants as val
use Rattle.ff_text.specs.Notation.{span}
use Rattle.ff_text.specs.Printed.{is_word}
use Rattle.ff_text.specs.declared.items.Sexp.{Sexp}
use Rattle.ff_text.proofs.Nesting.{formed, formed-Word, formed-List, fits_formed, AreFormed, all_formed}
use Rattle.ff_forms.specs.Canonical.{word, string, parens, expr_item}
use Rattle.ff_printing.proofs.Fitting.{expr_item_well_spelled}
use Rattle.ff_printing.proofs.WordTexts.{name_word}
use Rattle.ff_lattice.specs.Order.{Order}
use Rattle.ff_machine.specs.declared.records.Dst.{Dst}
use Rattle.ff_machine.specs.declared.records.Dst.TheVariants as dst
use Rattle.ff_trace.specs.Printed.{number}
use Rattle.ff_trace.proofs.Worded.{number_word, domain_word, fits_string}
use Rattle.ff_saved_rows.specs.Rows.{code_item, dst_item, row_items, IsHeld, IsRow}
use Rattle.ff_saved_rows.specs.declared.row.Row.{Row}
use Rattle.ff_saved_rows.specs.declared.row.Row.TheVariants as row
use Rattle.ff_saved_rows.proofs.Nested.{row_nested}

-- Items of a row.

word_formed : (text : List ℕ) → is_word text ≡ true → formed (word text) ≡ true
word_formed text is = formed-Word (span 0 0) text ∙ is

number_formed : (n : ℕ) → IsNat n → formed (number n) ≡ true
number_formed n small = word_formed (nat_text n) (number_word n small)

list_formed : (parts : List Sexp) → AreFormed parts → formed (parens parts) ≡ true
list_formed parts are = formed-List (span 0 0) parts ∙ are

more_formed : (item : Sexp) (items : List Sexp) → formed item ≡ true → AreFormed items → AreFormed (item ∷ items)
more_formed item items one others = and_from (formed item) (list_all (λ (p : Bool). p) (map formed items)) one others

names_formed : (xs : List (List ℕ)) → AllByRecursion IsVar xs → AreFormed (map word xs)
names_formed [] vars = refl
names_formed (x ∷ xs) vars = more_formed (word x) (map word xs) (word_formed x (name_word x vars.0.name)) (names_formed xs vars.1)

code_formed : (code : Code) → IsWellSpelledCode code → IsNat code.env.0 → formed (code_item code) ≡ true
code_formed code well small =
    list_formed (word (codes "code") ∷ number code.env.0 ∷ parens (map word code.params) ∷ expr_item code.body ∷ [])
    (more_formed (word (codes "code")) (number code.env.0 ∷ parens (map word code.params) ∷ expr_item code.body ∷ []) (word_formed (codes "code") refl)
    (more_formed (number code.env.0) (parens (map word code.params) ∷ expr_item code.body ∷ []) (number_formed code.env.0 small)
    (more_formed (parens (map word code.params)) (expr_item code.body ∷ []) (list_formed (map word code.params) (names_formed code.params well.params.vars))
    (more_formed (expr_item code.body) [] (fits_formed (expr_item code.body) 0 (expr_item_well_spelled code.body well.body)) refl))))

-- Rows.

var_formed : (order : Order) (x : List ℕ) (v : Val) → IsName x × IsHeld v → AreFormed (row_items order (row.Var (record { name = x; value = v })))
var_formed order x (val.Code code) is =
    more_formed (word (codes "var")) (word x ∷ code_item code ∷ []) (word_formed (codes "var") refl)
    (more_formed (word x) (code_item code ∷ []) (word_formed x (name_word x is.0)) (more_formed (code_item code) [] (code_formed code is.1.0 is.1.1) refl))
var_formed order x v is = all_formed (row_items order (row.Var (record { name = x; value = v }))) (row_nested order (row.Var (record { name = x; value = v })) is tt)

on_formed : (order : Order) (code : Code) → IsRow order (row.On code) → AreFormed (row_items order (row.On code))
on_formed order code is = more_formed (word (codes "on")) (code_item code ∷ []) (word_formed (codes "on") refl) (more_formed (code_item code) [] (code_formed code is.0 is.1) refl)

-- the row of a request
abbrev ask_row : (domain uri : List ℕ) → Dst → Row
ask_row domain uri d = row.Ask (record { domain = domain; pending = record { uri = uri; dst = d } })

ask_formed : (order : Order) (domain uri : List ℕ) (d : Dst) → IsRow order (ask_row domain uri d) → AreFormed (row_items order (ask_row domain uri d))
ask_formed order domain uri (dst.Call page code) is =
    let call = dst_item (dst.Call page code) in
    more_formed (word (codes "ask")) (word domain ∷ string uri ∷ call ∷ []) (word_formed (codes "ask") refl)
    (more_formed (word domain) (string uri ∷ call ∷ []) (word_formed domain (domain_word domain is.0))
    (more_formed (string uri) (call ∷ []) (fits_formed (string uri) 0 (fits_string uri is.1))
    (more_formed call []
    (list_formed (word (codes "call") ∷ number page.0 ∷ code_item code ∷ [])
    (more_formed (word (codes "call")) (number page.0 ∷ code_item code ∷ []) (word_formed (codes "call") refl)
    (more_formed (number page.0) (code_item code ∷ []) (number_formed page.0 is.2.0) (more_formed (code_item code) [] (code_formed code is.2.1 is.2.2) refl))))
    refl)))
ask_formed order domain uri d is = all_formed (row_items order (ask_row domain uri d)) (row_nested order (ask_row domain uri d) is tt)

pub row_formed : (order : Order) (one : Row) → IsRow order one → AreFormed (row_items order one)
row_formed order (row.Var var) is = var_formed order var.name var.value is
row_formed order (row.On code) is = on_formed order code is
row_formed order (row.Ask rec) is = ask_formed order rec.domain rec.pending.uri rec.pending.dst is
row_formed order one is = all_formed (row_items order one) (row_nested order one is tt)
