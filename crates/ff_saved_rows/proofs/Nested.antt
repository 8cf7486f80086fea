-- The items of a row whose functions stand in few lists are well spelled, and its line holds no
-- newline.
use Rattle.std.proofs.Common.{◌≡◌, ◌≢◌, ◌<◌, ℕ, suc, Bool, true, false, nat_lt, Option, Some, None, List, [], ◌∷◌, map, codes, refl, sym, ap, subst, ◌∙◌, All, arith}
use Rattle.std.specs.List.{list_all, AllByRecursion}
use Rattle.std.specs.Option.{ForSome}
use Rattle.std.specs.Str.{IsUtf8}
use Rattle.std.proofs.lemmas.Bool.{and_parts, and_from}
use Rattle.std.proofs.lemmas.Bool.Decides.{nat_tests}
use Rattle.std.proofs.lemmas.List.Elements.{All-cons, All-append, All-head, All-tail}
use Rattle.ff_name.specs.Address.{IsWellSpelled as IsWellSpelledUrl, printed}
use Rattle.ff_name.specs.declared.urls.Url.{Url}
use Rattle.ff_number.specs.Decimal.{nat_text, num_text}
use Rattle.ff_tree.specs.Spelled.{IsVar}
use Rattle.ff_tree.specs.declared.tree.Expr.{Expr}
use Rattle.ff_value.specs.Spelled.{IsNat, IsWellSpelledCode}
use Rattle.ff_value.specs.declared.ids.ActId.{ActId}
use Rattle.ff_value.specs.declared.ids.NodeId.{NodeId}
use Rattle.ff_value.specs.declared.ids.WinId.{WinId}
use Rattle.ff_value.specs.declared.value.Code.{Code}
use Rattle.ff_value.specs.declared.value.Val.{Val}
use Rattle.ff_value.specs.declared.value.Val.TheVariants as val
use Rattle.ff_text.specs.Bytes.{is_word_byte}
use Rattle.ff_text.specs.Notation.{span}
use Rattle.ff_text.specs.Printed.{spelled, fits_at, is_word, IsWellSpelled, AreWellSpelled}
use Rattle.ff_text.specs.declared.items.Sexp.{Sexp}
use Rattle.ff_text.proofs.Layers.{fits_at-Word, fits_at-List}
use Rattle.ff_forms.specs.Canonical.{word, string, parens, address, expr_item}
use Rattle.ff_printing.proofs.Fitting.{expr_item_well_spelled}
use Rattle.ff_printing.proofs.Items.{expr_item-Set}
use Rattle.ff_printing.proofs.OneLine.{spelled_one_line}
use Rattle.ff_printing.proofs.WordTexts.{name_word, url_word, number_word as num_word}
use Rattle.ff_lattice.specs.Order.{Order, name, size, is_level_name, IsOrder}
use Rattle.ff_machine.specs.Kinds as kinds
use Rattle.ff_machine.specs.Shapes.{kind_of}
use Rattle.ff_machine.specs.declared.kinds.Kind.{Kind}
use Rattle.ff_machine.specs.declared.kinds.Kind.TheVariants as kind
use Rattle.ff_machine.specs.declared.records.Dst.{Dst}
use Rattle.ff_machine.specs.declared.records.Dst.TheVariants as dst
use Rattle.ff_machine.specs.declared.records.Entry.{Entry}
use Rattle.ff_machine.specs.declared.records.Entry.TheVariants.{Ready, Wait}
use Rattle.ff_machine.specs.declared.records.Shape.{Shape}
use Rattle.ff_machine.specs.declared.records.Shape.TheVariants as shape
use Rattle.ff_trace.specs.Printed.{number, joined}
use Rattle.ff_trace.proofs.Worded.{number_word, domain_word, tag_is_word, fits_word, fits_string, fits_more, fits_none}
use Rattle.ff_saved_rows.specs.Rows.{act_item, win_item, truth_item, code_item, val_item, dst_item, shape_parts, entry_items, name_item, row_items, row_text, IsHeld, IsWanted, IsShown, IsEntered, IsRow}
use Rattle.ff_saved_rows.specs.declared.row.Row.{Row}
use Rattle.ff_saved_rows.specs.declared.row.Row.TheVariants as row
use Rattle.ff_saved_rows.proofs.Shallow.{in_set, Inside, IsShallowVal, IsShallowDst, IsShallow, FitAt}

-- Items in so many lists.

word_at : (n : ℕ) (text : List ℕ) → is_word text ≡ true → fits_at (word text) n ≡ true
word_at n text e = ap (λ f. f n) (fits_at-Word (span 0 0) text) ∙ e

fit_more : (n : ℕ) (item : Sexp) (items : List Sexp) → fits_at item n ≡ true → FitAt n items → FitAt n (item ∷ items)
fit_more n item items one all = and_from (fits_at item n) (list_all (λ (part : ℕ → Bool). part n) (map fits_at items)) one all

list_at : (n : ℕ) (parts : List Sexp) → n < 64 → FitAt (suc n) parts → fits_at (parens parts) n ≡ true
list_at n parts room all =
    let test : nat_lt n 64 ≡ true = grind (arith, nat_tests) in
    ap (λ f. f n) (fits_at-List (span 0 0) parts) ∙ and_from (nat_lt n 64) (list_all (λ (part : ℕ → Bool). part (suc n)) (map fits_at parts)) test all

number_at : (n m : ℕ) → IsNat m → fits_at (number m) n ≡ true
number_at n m small = word_at n (nat_text m) (number_word m small)

-- an expression in so many lists

from_set : (n : ℕ) (e : Expr) → fits_at (expr_item (in_set e)) n ≡ true → fits_at (expr_item e) (suc n) ≡ true
from_set n e fits =
    let parts = word (codes "set") ∷ word (codes "x") ∷ expr_item e ∷ [] in
    let layer : fits_at (parens parts) n ≡ true = subst (λ i. fits_at i n ≡ true) (expr_item-Set (codes "x") e) fits in
    let all = (and_parts (nat_lt n 64) (list_all (λ (part : ℕ → Bool). part (suc n)) (map fits_at parts)) (sym (ap (λ f. f n) (fits_at-List (span 0 0) parts)) ∙ layer)).1 in
    let after_word = (and_parts (fits_at (word (codes "set")) (suc n)) _ all).1 in
    let after_name = (and_parts (fits_at (word (codes "x")) (suc n)) _ after_word).1 in
    (and_parts (fits_at (expr_item e) (suc n)) true after_name).0

body_in_one : (e : Expr) → Inside e → fits_at (expr_item e) 1 ≡ true
body_in_one e inside = from_set 0 e (expr_item_well_spelled (in_set e) inside)

body_in_two : (e : Expr) → Inside (in_set e) → fits_at (expr_item e) 2 ≡ true
body_in_two e inside = from_set 1 e (body_in_one (in_set e) inside)

-- functions

names_at : (n : ℕ) (xs : List (List ℕ)) → AllByRecursion IsVar xs → FitAt n (map word xs)
names_at n [] vars = refl
names_at n (x ∷ xs) vars = fit_more n (word x) (map word xs) (word_at n x (name_word x vars.0.name)) (names_at n xs vars.1)

code_at : (n : ℕ) (code : Code) → suc n < 64 → IsWellSpelledCode code → IsNat code.env.0 → fits_at (expr_item code.body) (suc n) ≡ true → fits_at (code_item code) n ≡ true
code_at n code room well small body =
    list_at n (word (codes "code") ∷ number code.env.0 ∷ parens (map word code.params) ∷ expr_item code.body ∷ []) (omega arith)
    (fit_more (suc n) (word (codes "code")) (number code.env.0 ∷ parens (map word code.params) ∷ expr_item code.body ∷ []) (word_at (suc n) (codes "code") refl)
    (fit_more (suc n) (number code.env.0) (parens (map word code.params) ∷ expr_item code.body ∷ []) (number_at (suc n) code.env.0 small)
    (fit_more (suc n) (parens (map word code.params)) (expr_item code.body ∷ []) (list_at (suc n) (map word code.params) room (names_at (suc (suc n)) code.params well.params.vars))
    (fit_more (suc n) (expr_item code.body) [] body refl))))

-- a list of a word and numbers
numbers_at : (n : ℕ) (head : List ℕ) (first : ℕ) → n < 64 → is_word head ≡ true → IsNat first → fits_at (parens (word head ∷ number first ∷ [])) n ≡ true
numbers_at n head first room is small =
    list_at n (word head ∷ number first ∷ []) room
    (fit_more (suc n) (word head) (number first ∷ []) (word_at (suc n) head is) (fit_more (suc n) (number first) [] (number_at (suc n) first small) refl))

-- values, and what a reply is for

truth_fits : (truth : Bool) → IsWellSpelled (truth_item truth)
truth_fits true = fits_word (codes "true") refl
truth_fits false = fits_word (codes "false") refl

val_fits : (v : Val) → IsHeld v → IsShallowVal v → IsWellSpelled (val_item v)
val_fits val.Null held shallow = fits_word (codes "null") refl
val_fits (val.Bool truth) held shallow = truth_fits truth
val_fits (val.Num n) held shallow = fits_word (num_text n) (num_word n held)
val_fits (val.Str text) held shallow = fits_string text held
val_fits (val.Win w) held shallow = numbers_at 0 (codes "win") w.0 (omega arith) refl held
val_fits (val.Node n) held shallow = numbers_at 0 (codes "node") n.0 (omega arith) refl held
val_fits (val.Code code) held shallow = code_at 0 code (omega arith) held.0 held.1 (body_in_one code.body shallow)

dst_fits : (d : Dst) → IsWanted d → IsShallowDst d → IsWellSpelled (dst_item d)
dst_fits (dst.Window w) wanted shallow = numbers_at 0 (codes "win") w.0 (omega arith) refl wanted
dst_fits (dst.Slot page slot) wanted shallow =
    list_at 0 (word (codes "slot") ∷ number page.0 ∷ number slot ∷ []) (omega arith)
    (fit_more 1 (word (codes "slot")) (number page.0 ∷ number slot ∷ []) (word_at 1 (codes "slot") refl)
    (fit_more 1 (number page.0) (number slot ∷ []) (number_at 1 page.0 wanted.0) (fit_more 1 (number slot) [] (number_at 1 slot wanted.1) refl)))
dst_fits (dst.Call page code) wanted shallow =
    list_at 0 (word (codes "call") ∷ number page.0 ∷ code_item code ∷ []) (omega arith)
    (fit_more 1 (word (codes "call")) (number page.0 ∷ code_item code ∷ []) (word_at 1 (codes "call") refl)
    (fit_more 1 (number page.0) (code_item code ∷ []) (number_at 1 page.0 wanted.0)
    (fit_more 1 (code_item code) [] (code_at 1 code (omega arith) wanted.1 wanted.2 (body_in_two code.body shallow)) refl)))

-- rows

number_fits : (n : ℕ) → IsNat n → IsWellSpelled (number n)
number_fits n small = number_at 0 n small

address_fits : (url : Url) → IsWellSpelledUrl url → IsWellSpelled (address url)
address_fits url well = fits_word (printed url) (url_word url well)

-- the items of a row after the word that begins it
headed : (head : List ℕ) (items : List Sexp) → is_word head ≡ true → AreWellSpelled items → AreWellSpelled (word head ∷ items)
headed head items is fits = fits_more (word head) items (fits_word head is) fits

one_fits : (a : Sexp) → IsWellSpelled a → AreWellSpelled (a ∷ [])
one_fits a is_a = fits_more a [] is_a fits_none

two_fit : (a b : Sexp) → IsWellSpelled a → IsWellSpelled b → AreWellSpelled (a ∷ b ∷ [])
two_fit a b is_a is_b = fits_more a (b ∷ []) is_a (one_fits b is_b)

three_fit : (a b c : Sexp) → IsWellSpelled a → IsWellSpelled b → IsWellSpelled c → AreWellSpelled (a ∷ b ∷ c ∷ [])
three_fit a b c is_a is_b is_c = fits_more a (b ∷ c ∷ []) is_a (two_fit b c is_b is_c)

each_fits : {X : Type 0} (P : X → Type 0) (item : X → Sexp) → ((x : X) → P x → IsWellSpelled (item x)) → (xs : List X) → All P xs → AreWellSpelled (map item xs)
each_fits P item one [] all = fits_none
each_fits P item one (x ∷ xs) all = fits_more (item x) (map item xs) (one x (All-head P x xs all)) (each_fits P item one xs (All-tail P x xs all))

some_word : (text : List ℕ) → is_word (64 ∷ text) ≡ true → is_level_name text ≡ true → is_word text ≡ true
some_word [] all named = cc
some_word (b ∷ text) all named = (and_parts (is_word_byte 64) (list_all is_word_byte (b ∷ text)) all).1

level_is_word : (order : Order) (l : ℕ) → IsOrder order → l < size order → is_word (name order l) ≡ true
level_is_word order l valid inside = some_word (name order l) (tag_is_word order valid l inside) (valid.named l inside)

act_fits : (act : Option ActId) → ForSome act (λ a. IsNat a.0) → IsWellSpelled (act_item act)
act_fits None small = fits_word (codes "none") refl
act_fits (Some act) small = number_fits act.0 (small act refl)

win_fits : (win : Option WinId) → ForSome win (λ w. IsNat w.0) → IsWellSpelled (win_item win)
win_fits None small = fits_word (codes "none") refl
win_fits (Some win) small = number_fits win.0 (small win refl)

name_fits : (text : Option (List ℕ)) → ForSome text IsUtf8 → IsWellSpelled (name_item text)
name_fits None utf8 = fits_word (codes "none") refl
name_fits (Some text) utf8 = fits_string text (utf8 text refl)

kind_is_word : (k : Kind) → is_word (kinds.kind_word k) ≡ true
kind_is_word kind.Page = refl
kind_is_word kind.Text = refl
kind_is_word kind.Link = refl
kind_is_word kind.TextBox = refl
kind_is_word kind.Button = refl
kind_is_word kind.Script = refl
kind_is_word kind.Src = refl
kind_is_word kind.Div = refl

shape_fits : (s : Shape) → IsShown s → AreWellSpelled (shape_parts s)
shape_fits (shape.Page page) is = one_fits (number page.0) (number_fits page.0 is)
shape_fits (shape.Text x text) is = two_fit (word x) (string text) (fits_word x (name_word x is.0)) (fits_string text is.1)
shape_fits (shape.Link x url label) is = three_fit (word x) (address url) (string label) (fits_word x (name_word x is.0)) (address_fits url is.1) (fits_string label is.2)
shape_fits (shape.TextBox x text) is = two_fit (word x) (string text) (fits_word x (name_word x is.0)) (fits_string text is.1)
shape_fits (shape.Button x label) is = two_fit (word x) (string label) (fits_word x (name_word x is.0)) (fits_string label is.1)
shape_fits (shape.Script x started body) is = three_fit (word x) (truth_item started) (expr_item body) (fits_word x (name_word x is.0)) (truth_fits started) (expr_item_well_spelled body is.1)
shape_fits (shape.Src x started url) is = three_fit (word x) (truth_item started) (address url) (fits_word x (name_word x is.0)) (truth_fits started) (address_fits url is.1)
shape_fits (shape.Div x) is = one_fits (word x) (fits_word x (name_word x is))

entry_fits : (entry : Entry) → IsEntered entry → AreWellSpelled (entry_items entry)
entry_fits (Ready body) is = headed (codes "ready") (expr_item body ∷ []) refl (one_fits (expr_item body) (expr_item_well_spelled body is))
entry_fits (Wait slot) is = headed (codes "wait") (number slot ∷ []) refl (one_fits (number slot) (number_fits slot is))

-- the items of a row
pub row_nested : (order : Order) (one : Row) → IsRow order one → IsShallow one → AreWellSpelled (row_items order one)
row_nested order row.Head is shallow = headed (codes "ffox-saved") (word (codes "1") ∷ []) refl (one_fits (word (codes "1")) (fits_word (codes "1") refl))
row_nested order (row.Policy text) is shallow = headed (codes "policy") (string text ∷ []) refl (one_fits (string text) (fits_string text is))
row_nested order (row.Class levels) is shallow =
    headed (codes "class") (map (λ l. word (name order l)) levels) refl
    (each_fits (λ l. l < size order) (λ l. word (name order l)) (λ l inside. fits_word (name order l) (level_is_word order l is.0 inside)) levels is.2)
row_nested order (row.Mass mass) is shallow = headed (codes "mass") (number mass ∷ []) refl (one_fits (number mass) (number_fits mass is))
row_nested order (row.Act parent) is shallow = headed (codes "act") (act_item parent ∷ []) refl (one_fits (act_item parent) (act_fits parent is))
row_nested order (row.Var var) is shallow =
    headed (codes "var") (word var.name ∷ val_item var.value ∷ []) refl
    (two_fit (word var.name) (val_item var.value) (fits_word var.name (name_word var.name is.0)) (val_fits var.value is.1 shallow))
row_nested order (row.Node s) is shallow =
    headed (codes "node") (word (kinds.kind_word (kind_of s)) ∷ shape_parts s) refl
    (fits_more (word (kinds.kind_word (kind_of s))) (shape_parts s) (fits_word (kinds.kind_word (kind_of s)) (kind_is_word (kind_of s))) (shape_fits s is))
row_nested order (row.On code) is shallow = headed (codes "on") (code_item code ∷ []) refl (one_fits (code_item code) (code_at 0 code (omega arith) is.0 is.1 (body_in_one code.body shallow)))
row_nested order (row.Kids kids) is shallow =
    headed (codes "kids") (map (λ n. number n.0) kids) refl (each_fits (λ (n : NodeId). IsNat n.0) (λ n. number n.0) (λ n small. number_fits n.0 small) kids is)
row_nested order (row.Page url win root act next) is shallow =
    headed (codes "page") (address url ∷ number win.0 ∷ number root.0 ∷ number act.0 ∷ number next ∷ []) refl
    (fits_more (address url) (number win.0 ∷ number root.0 ∷ number act.0 ∷ number next ∷ []) (address_fits url is.0)
    (fits_more (number win.0) (number root.0 ∷ number act.0 ∷ number next ∷ []) (number_fits win.0 is.1)
    (three_fit (number root.0) (number act.0) (number next) (number_fits root.0 is.2) (number_fits act.0 is.3) (number_fits next is.4))))
row_nested order (row.Queued entry) is shallow = entry_fits entry is
row_nested order (row.Win rec) is shallow =
    headed (codes "win") (number rec.page.0 ∷ win_item rec.opener ∷ name_item rec.name ∷ []) refl
    (three_fit (number rec.page.0) (win_item rec.opener) (name_item rec.name) (number_fits rec.page.0 is.0) (win_fits rec.opener is.1) (name_fits rec.name is.2))
row_nested order (row.Open wins) is shallow =
    headed (codes "open") (map (λ w. number w.0) wins) refl (each_fits (λ (w : WinId). IsNat w.0) (λ w. number w.0) (λ w small. number_fits w.0 small) wins is)
row_nested order (row.Cookie rec) is shallow =
    headed (codes "cookie") (word rec.domain ∷ string rec.key ∷ string rec.value ∷ []) refl
    (three_fit (word rec.domain) (string rec.key) (string rec.value) (fits_word rec.domain (domain_word rec.domain is.0)) (fits_string rec.key is.1) (fits_string rec.value is.2))
row_nested order (row.Ask rec) is shallow =
    headed (codes "ask") (word rec.domain ∷ string rec.pending.uri ∷ dst_item rec.pending.dst ∷ []) refl
    (three_fit (word rec.domain) (string rec.pending.uri) (dst_item rec.pending.dst) (fits_word rec.domain (domain_word rec.domain is.0)) (fits_string rec.pending.uri is.1) (dst_fits rec.pending.dst is.2 shallow))
row_nested order row.End is shallow = headed (codes "end") [] refl fits_none

-- a line holds no newline

abbrev pub IsOneLine : List ℕ → Type 0
IsOneLine bytes = All (λ b. b ≢ 10) bytes

joined_one_line : (items : List Sexp) → AreWellSpelled items → IsOneLine (joined items)
joined_one_line [] well = λ k d inside. absurd (omega (arith, inside))
joined_one_line (item ∷ []) well = spelled_one_line item (and_parts (fits_at item 0) true well).0
joined_one_line (item ∷ next ∷ others) well =
    let tests = and_parts (fits_at item 0) (list_all (λ (part : ℕ → Bool). part 0) (map fits_at (next ∷ others))) well in
    All-append (λ b. b ≢ 10) (spelled item) (32 ∷ joined (next ∷ others)) (spelled_one_line item tests.0)
    (All-cons (λ b. b ≢ 10) 32 (joined (next ∷ others)) (λ e. cc) (joined_one_line (next ∷ others) tests.1))

pub row_one_line : (order : Order) (one : Row) → AreWellSpelled (row_items order one) → IsOneLine (row_text order one)
row_one_line order one well = joined_one_line (row_items order one) well
