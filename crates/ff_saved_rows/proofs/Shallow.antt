-- What a line says as a row nests no deeper than the line.
use Rattle.std.proofs.Common.{◌≡◌, ◌<◌, ℕ, suc, Bool, true, nat_lt, Option, Some, None, Result, Ok, Err, List, [], ◌∷◌, map, codes, refl, sym, ap, subst, ◌∙◌, arith}
use Rattle.std.specs.Prelude.{⊤}
use Rattle.std.specs.List.{list_all}
use Rattle.std.proofs.lemmas.Bool.{and_parts, and_from}
use Rattle.std.proofs.lemmas.Bool.Decides.{nat_tests}
use Rattle.ff_tree.specs.Spelled.{IsWellSpelledExpr}
use Rattle.ff_tree.specs.declared.tree.Doc.{Doc}
use Rattle.ff_tree.specs.declared.tree.Doc.TheOpen.{Expr-F}
use Rattle.ff_tree.specs.declared.tree.Doc.TheViews.{out-Expr}
use Rattle.ff_tree.specs.declared.tree.Expr.{Expr}
use Rattle.ff_tree.specs.declared.tree.Expr.TheVariants as expr
use Rattle.ff_tree.specs.declared.tree.Handler.{Handler}
use Rattle.ff_tree.specs.declared.tree.Lit.{Lit}
use Rattle.ff_tree.specs.declared.tree.Lit.TheVariants as lit
use Rattle.ff_value.specs.declared.value.Code.{Code}
use Rattle.ff_value.specs.declared.value.Val.{Val}
use Rattle.ff_value.specs.declared.value.Val.TheVariants as val
use Rattle.ff_text.specs.Notation.{span}
use Rattle.ff_text.specs.Printed.{fits_at}
use Rattle.ff_text.specs.declared.items.Span.{Span}
use Rattle.ff_text.specs.declared.items.Sexp.{Sexp}
use Rattle.ff_text.specs.declared.items.Sexp.TheVariants as sexp
use Rattle.ff_text.proofs.Layers.{fits_at-Word, fits_at-List}
use Rattle.ff_text.proofs.Spelled.{well_spelled_items}
use Rattle.ff_forms.specs.Grammar.{reading, an_expression}
use Rattle.ff_forms.specs.Spellings.{SpellsExpr, a_set}
use Rattle.ff_forms.specs.declared.fault.SyntaxFault.{SyntaxFault}
use Rattle.ff_reading.proofs.Backs.{IsVar-from, IsOne, is_word, is_string, is_list, item_cases}
use Rattle.ff_reading.proofs.Sounds.{spelled_expr}
use Rattle.ff_reading.proofs.Wells.{well_expr}
use Rattle.ff_lattice.specs.Order.{Order}
use Rattle.ff_machine.specs.declared.records.Dst.{Dst}
use Rattle.ff_machine.specs.declared.records.Dst.TheVariants as dst
use Rattle.ff_machine.specs.declared.records.Entry.TheVariants.{Ready, Wait}
use Rattle.ff_trace.specs.Parts.{or_syntax, number_in, address_in, domain_in, string_in}
use Rattle.ff_trace.specs.declared.fault.LineFault.{LineFault}
use Rattle.ff_saved_rows.specs.declared.kinds.RowKind.{RowKind}
use Rattle.ff_saved_rows.specs.declared.kinds.RowKind.TheVariants as of
use Rattle.ff_saved_rows.specs.declared.kinds.ListKind.{ListKind}
use Rattle.ff_saved_rows.specs.declared.kinds.ListKind.TheVariants as list
use Rattle.ff_saved_rows.specs.declared.row.Row.{Row}
use Rattle.ff_saved_rows.specs.declared.row.Row.TheVariants as row
use Rattle.ff_saved_rows.specs.Reading.{of_one, of_two, of_three, of_five, each_in, name_in, params_in, body_in, optional_in, node_in, win_in, act_in, levels_in, list_kind_of, made_code, code_of, code_list, code_layer, code_in, lit_layer, lit_val, held_of, held_list, val_layer, val_in, dst_of, dst_list, dst_layer, dst_in, shape_in, version_in, head_row, policy_row, mass_row, act_row, var_row, on_row, page_row, ready_row, wait_row, win_row, cookie_row, ask_row, end_row, row_of, row_kind_of, row_by, row_in, ReadsRow, bad_text, as_items}
use Rattle.ff_term.specs.Whole.{literal}

-- An expression that may stand inside one list: as what a variable is set to.
abbrev pub in_set : Expr → Expr
in_set e = expr.Set (codes "x") e

abbrev pub Inside : Expr → Type 0
Inside e = IsWellSpelledExpr (in_set e)

-- what a value, a destination and a row hold stands in no more lists than a line may have
abbrev pub IsShallowVal : Val → Type 0
IsShallowVal (val.Code code) = Inside code.body
IsShallowVal other = ⊤

abbrev pub IsShallowDst : Dst → Type 0
IsShallowDst (dst.Call page code) = Inside (in_set code.body)
IsShallowDst other = ⊤

abbrev pub IsShallow : Row → Type 0
IsShallow (row.Var var) = IsShallowVal var.value
IsShallow (row.On code) = Inside code.body
IsShallow (row.Ask rec) = IsShallowDst rec.pending.dst
IsShallow other = ⊤

-- Items in so many lists.

abbrev pub FitAt : ℕ → List Sexp → Type 0
FitAt n items = list_all (λ (part : ℕ → Bool). part n) (map fits_at items) ≡ true

first_fits : (n : ℕ) (item : Sexp) (items : List Sexp) → FitAt n (item ∷ items) → (fits_at item n ≡ true) × FitAt n items
first_fits n item items h = and_parts (fits_at item n) (list_all (λ (part : ℕ → Bool). part n) (map fits_at items)) h

list_fits : (at : Span) (parts : List Sexp) (n : ℕ) → fits_at (sexp.List at parts) n ≡ true → FitAt (suc n) parts
list_fits at parts n h =
    (and_parts (nat_lt n 64) (list_all (λ (part : ℕ → Bool). part (suc n)) (map fits_at parts)) (sym (ap (λ f. f n) (fits_at-List at parts)) ∙ h)).1

-- the item of what a variable is set to, around another item
set_item : Sexp → Sexp
set_item item = sexp.List (span 0 0) (sexp.Word (span 0 0) (codes "set") ∷ sexp.Word (span 0 0) (codes "x") ∷ item ∷ [])

set_fits : (item : Sexp) (n : ℕ) → n < 64 → fits_at item (suc n) ≡ true → fits_at (set_item item) n ≡ true
unfolding set_item
set_fits item n room fits =
    let test : nat_lt n 64 ≡ true = grind (arith, nat_tests) in
    let word : (text : List ℕ) → fits_at (sexp.Word (span 0 0) text) (suc n) ≡ fits_at (sexp.Word (span 0 0) text) 0 = λ text. ap (λ f. f (suc n)) (fits_at-Word (span 0 0) text) ∙ sym (ap (λ f. f 0) (fits_at-Word (span 0 0) text)) in
    ap (λ f. f n) (fits_at-List (span 0 0) (sexp.Word (span 0 0) (codes "set") ∷ sexp.Word (span 0 0) (codes "x") ∷ item ∷ []))
    ∙ and_from _ _ test
    (and_from _ _ (word (codes "set") ∙ ap (λ f. f 0) (fits_at-Word (span 0 0) (codes "set")))
    (and_from _ _ (word (codes "x") ∙ ap (λ f. f 0) (fits_at-Word (span 0 0) (codes "x")))
    (and_from _ _ fits refl)))

set_spells : (item : Sexp) (e : Expr) → SpellsExpr item e → SpellsExpr (set_item item) (in_set e)
unfolding set_item
set_spells item e spells = a_set (span 0 0) (span 0 0) (span 0 0) (codes "x") item e (IsVar-from (codes "x") refl) spells

-- Answers, taken apart.

syntax_ok : {X : Type 0} (answer : Result X SyntaxFault) (x : X) → or_syntax answer ≡ Ok x → answer ≡ Ok x
syntax_ok (Ok y) x e = cc
syntax_ok (Err which) x e = cc

body_spelled : (item : Sexp) (e : Expr) → body_in item ≡ Ok e → SpellsExpr item e
body_spelled item e is = spelled_expr item e (syntax_ok (reading item an_expression) e is)

inside_one : (item : Sexp) (e : Expr) → body_in item ≡ Ok e → fits_at item 1 ≡ true → Inside e
inside_one item e is fits = well_expr (set_item item) (in_set e) (set_spells item e (body_spelled item e is)) (set_fits item 0 (omega arith) fits)

inside_two : (item : Sexp) (e : Expr) → body_in item ≡ Ok e → fits_at item 2 ≡ true → Inside (in_set e)
inside_two item e is fits =
    well_expr (set_item (set_item item)) (in_set (in_set e)) (set_spells (set_item item) (in_set e) (set_spells item e (body_spelled item e is)))
    (set_fits (set_item item) 0 (omega arith) (set_fits item 1 (omega arith) fits))

abbrev ok_of : {X : Type 0} → X → Result X LineFault
ok_of x = Ok x

-- what holds of all that is made of answers holds of what was made
module _ {X : Type 0} (P : X → Type 0) where
  as_made : {x y : X} → ok_of x ≡ Ok y → P x → P y
  as_made {x} {y} e p = let same : x ≡ y = cc in subst P same p

  from_one : {A : Type 0} (make : A → X) (first : Result A LineFault) (x : X) → of_one make first ≡ Ok x → ((a : A) → first ≡ Ok a → P (make a)) → P x
  from_one make (Ok a) x e each = as_made e (each a refl)
  from_one make (Err which) x e each = cc

  from_two : {A B : Type 0} (make : A → B → X) (first : Result A LineFault) (second : Result B LineFault) (x : X) → of_two make first second ≡ Ok x
      → ((a : A) (b : B) → first ≡ Ok a → second ≡ Ok b → P (make a b)) → P x
  from_two make (Ok a) second x e each = from_one (make a) second x e (λ b is. each a b refl is)
  from_two make (Err which) second x e each = cc

  from_three : {A B C : Type 0} (make : A → B → C → X) (first : Result A LineFault) (second : Result B LineFault) (third : Result C LineFault) (x : X) → of_three make first second third ≡ Ok x
      → ((a : A) (b : B) (c : C) → first ≡ Ok a → second ≡ Ok b → third ≡ Ok c → P (make a b c)) → P x
  from_three make (Ok a) second third x e each = from_two (make a) second third x e (λ b c is_b is_c. each a b c refl is_b is_c)
  from_three make (Err which) second third x e each = cc

  from_five : {A B C D E : Type 0} (make : A → B → C → D → E → X) (first : Result A LineFault) (second : Result B LineFault) (third : Result C LineFault) (fourth : Result D LineFault) (fifth : Result E LineFault) (x : X)
      → of_five make first second third fourth fifth ≡ Ok x → ((a : A) (b : B) (c : C) (d : D) (e : E) → P (make a b c d e)) → P x
  from_five make (Ok a) (Ok b) third fourth fifth x is each = from_three (make a b) third fourth fifth x is (λ c d e is_c is_d is_e. each a b c d e)
  from_five make (Ok a) (Err which) third fourth fifth x is each = cc
  from_five make (Err which) second third fourth fifth x is each = cc

-- the body of a function whose parts stand in so many lists
code_body : (P : Expr → Type 0) (n : ℕ) → ((item : Sexp) (e : Expr) → body_in item ≡ Ok e → fits_at item n ≡ true → P e)
    → (k : Option ListKind) (parts : List Sexp) (code : Code) → FitAt n parts → code_of k parts ≡ Ok code → P code.body
code_body P n each None parts code fits e = cc
code_body P n each (Some list.Win) parts code fits e = cc
code_body P n each (Some list.Node) parts code fits e = cc
code_body P n each (Some list.Slot) parts code fits e = cc
code_body P n each (Some list.Call) parts code fits e = cc
code_body P n each (Some list.Code) [] code fits e = cc
code_body P n each (Some list.Code) (act ∷ []) code fits e = cc
code_body P n each (Some list.Code) (act ∷ params ∷ []) code fits e = cc
code_body P n each (Some list.Code) (act ∷ params ∷ body ∷ []) code fits e =
    let after_act = (first_fits n act (params ∷ body ∷ []) fits).1 in
    let after_params = (first_fits n params (body ∷ []) after_act).1 in
    from_three (λ (c : Code). P c.body) made_code (number_in act) (params_in params) (body_in body) code e
    (λ a ps b is_a is_ps is_b. each body b is_b (first_fits n body [] after_params).0)
code_body P n each (Some list.Code) (act ∷ params ∷ body ∷ more ∷ others) code fits e = cc

code_list_body : (P : Expr → Type 0) (n : ℕ) → ((item : Sexp) (e : Expr) → body_in item ≡ Ok e → fits_at item n ≡ true → P e)
    → (parts : List Sexp) (code : Code) → FitAt n parts → code_list parts ≡ Ok code → P code.body
code_list_body P n each [] code fits e = cc
code_list_body P n each (head ∷ parts) code fits e = code_body P n each (list_kind_of head) parts code (first_fits n head parts fits).1 e

-- a function, as an item in so many lists
code_inside : (P : Expr → Type 0) (n : ℕ) → ((item : Sexp) (e : Expr) → body_in item ≡ Ok e → fits_at item (suc n) ≡ true → P e)
    → (item : Sexp) → IsOne item → (code : Code) → fits_at item n ≡ true → code_in item ≡ Ok code → P code.body
code_inside P n each _ (is_word at text) code fits e = let is = sym (ap code_layer (sexp.outs-Word at text)) ∙ e in cc
code_inside P n each _ (is_string at text) code fits e = let is = sym (ap code_layer (sexp.outs-Str at text)) ∙ e in cc
code_inside P n each _ (is_list at parts) code fits e = code_list_body P (suc n) each parts code (list_fits at parts n fits) (sym (ap code_layer (sexp.outs-List at parts)) ∙ e)

-- values

val_of_shallow : (l : Lit) → IsShallowVal (literal l)
val_of_shallow lit.Null = tt
val_of_shallow (lit.Bool truth) = tt
val_of_shallow (lit.Num n) = tt
val_of_shallow (lit.Str text) = tt

layer_shallow : (layer : Expr-F Doc Expr Handler) (v : Val) → lit_layer layer ≡ Ok v → IsShallowVal v
layer_shallow (Expr-F.Lit l) v e = as_made IsShallowVal e (val_of_shallow l)
layer_shallow (Expr-F.Var x) v e = cc
layer_shallow (Expr-F.Let x body) v e = cc
layer_shallow (Expr-F.Set x body) v e = cc
layer_shallow (Expr-F.If test then_body else_body) v e = cc
layer_shallow (Expr-F.While test body) v e = cc
layer_shallow (Expr-F.Do es) v e = cc
layer_shallow (Expr-F.And first second) v e = cc
layer_shallow (Expr-F.Or first second) v e = cc
layer_shallow (Expr-F.Make params body) v e = cc
layer_shallow (Expr-F.Apply callee es) v e = cc
layer_shallow (Expr-F.Tree doc) v e = cc
layer_shallow (Expr-F.Prim op es) v e = cc

lit_shallow : (answer : Result Expr LineFault) (v : Val) → lit_val answer ≡ Ok v → IsShallowVal v
lit_shallow (Ok e) v is = layer_shallow (out-Expr e) v is
lit_shallow (Err which) v is = cc

held_shallow : (k : Option ListKind) (parts : List Sexp) (v : Val) → FitAt 1 parts → held_of k parts ≡ Ok v → IsShallowVal v
held_shallow None parts v fits e = cc
held_shallow (Some list.Win) [] v fits e = cc
held_shallow (Some list.Win) (win ∷ []) v fits e = from_one IsShallowVal val.Win (win_in win) v e (λ w is. tt)
held_shallow (Some list.Win) (win ∷ more ∷ others) v fits e = cc
held_shallow (Some list.Node) [] v fits e = cc
held_shallow (Some list.Node) (node ∷ []) v fits e = from_one IsShallowVal val.Node (node_in node) v e (λ n is. tt)
held_shallow (Some list.Node) (node ∷ more ∷ others) v fits e = cc
held_shallow (Some list.Code) parts v fits e =
    from_one IsShallowVal val.Code (code_of (Some list.Code) parts) v e (λ code is. code_body Inside 1 inside_one (Some list.Code) parts code fits is)
held_shallow (Some list.Slot) parts v fits e = cc
held_shallow (Some list.Call) parts v fits e = cc

held_list_shallow : (parts : List Sexp) (v : Val) → FitAt 1 parts → held_list parts ≡ Ok v → IsShallowVal v
held_list_shallow [] v fits e = cc
held_list_shallow (head ∷ parts) v fits e = held_shallow (list_kind_of head) parts v (first_fits 1 head parts fits).1 e

val_shallow : (item : Sexp) → IsOne item → (v : Val) → fits_at item 0 ≡ true → val_in item ≡ Ok v → IsShallowVal v
val_shallow _ (is_word at text) v fits e = lit_shallow (body_in (sexp.Word at text)) v (sym (ap (val_layer (sexp.Word at text)) (sexp.outs-Word at text)) ∙ e)
val_shallow _ (is_string at text) v fits e = lit_shallow (body_in (sexp.Str at text)) v (sym (ap (val_layer (sexp.Str at text)) (sexp.outs-Str at text)) ∙ e)
val_shallow _ (is_list at parts) v fits e = held_list_shallow parts v (list_fits at parts 0 fits) (sym (ap (val_layer (sexp.List at parts)) (sexp.outs-List at parts)) ∙ e)

-- what a reply is for

dst_of_shallow : (k : Option ListKind) (parts : List Sexp) (d : Dst) → FitAt 1 parts → dst_of k parts ≡ Ok d → IsShallowDst d
dst_of_shallow None parts d fits e = cc
dst_of_shallow (Some list.Win) [] d fits e = cc
dst_of_shallow (Some list.Win) (win ∷ []) d fits e = from_one IsShallowDst dst.Window (win_in win) d e (λ w is. tt)
dst_of_shallow (Some list.Win) (win ∷ more ∷ others) d fits e = cc
dst_of_shallow (Some list.Slot) [] d fits e = cc
dst_of_shallow (Some list.Slot) (page ∷ []) d fits e = cc
dst_of_shallow (Some list.Slot) (page ∷ slot ∷ []) d fits e =
    from_two IsShallowDst (λ p s. dst.Slot (record { 0 = p }) s) (number_in page) (number_in slot) d e (λ p s is_p is_s. tt)
dst_of_shallow (Some list.Slot) (page ∷ slot ∷ more ∷ others) d fits e = cc
dst_of_shallow (Some list.Call) [] d fits e = cc
dst_of_shallow (Some list.Call) (page ∷ []) d fits e = cc
dst_of_shallow (Some list.Call) (page ∷ code ∷ []) d fits e =
    let after_page = (first_fits 1 page (code ∷ []) fits).1 in
    from_two IsShallowDst (λ p c. dst.Call (record { 0 = p }) c) (number_in page) (code_in code) d e
    (λ p c is_p is_c. code_inside (λ body. Inside (in_set body)) 1 inside_two code (item_cases code) c (first_fits 1 code [] after_page).0 is_c)
dst_of_shallow (Some list.Call) (page ∷ code ∷ more ∷ others) d fits e = cc
dst_of_shallow (Some list.Node) parts d fits e = cc
dst_of_shallow (Some list.Code) parts d fits e = cc

dst_list_shallow : (parts : List Sexp) (d : Dst) → FitAt 1 parts → dst_list parts ≡ Ok d → IsShallowDst d
dst_list_shallow [] d fits e = cc
dst_list_shallow (head ∷ parts) d fits e = dst_of_shallow (list_kind_of head) parts d (first_fits 1 head parts fits).1 e

dst_shallow : (item : Sexp) → IsOne item → (d : Dst) → fits_at item 0 ≡ true → dst_in item ≡ Ok d → IsShallowDst d
dst_shallow _ (is_word at text) d fits e = let is = sym (ap dst_layer (sexp.outs-Word at text)) ∙ e in cc
dst_shallow _ (is_string at text) d fits e = let is = sym (ap dst_layer (sexp.outs-Str at text)) ∙ e in cc
dst_shallow _ (is_list at parts) d fits e = dst_list_shallow parts d (list_fits at parts 0 fits) (sym (ap dst_layer (sexp.outs-List at parts)) ∙ e)

-- rows

head_shallow : (parts : List Sexp) (r : Row) → head_row parts ≡ Ok r → IsShallow r
head_shallow [] r e = cc
head_shallow (version ∷ []) r e = from_one IsShallow (λ one. row.Head) (version_in version) r e (λ one is. tt)
head_shallow (version ∷ more ∷ others) r e = cc

policy_shallow : (parts : List Sexp) (r : Row) → policy_row parts ≡ Ok r → IsShallow r
policy_shallow [] r e = cc
policy_shallow (text ∷ []) r e = from_one IsShallow row.Policy (string_in text) r e (λ t is. tt)
policy_shallow (text ∷ more ∷ others) r e = cc

mass_shallow : (parts : List Sexp) (r : Row) → mass_row parts ≡ Ok r → IsShallow r
mass_shallow [] r e = cc
mass_shallow (mass ∷ []) r e = from_one IsShallow row.Mass (number_in mass) r e (λ n is. tt)
mass_shallow (mass ∷ more ∷ others) r e = cc

act_shallow : (parts : List Sexp) (r : Row) → act_row parts ≡ Ok r → IsShallow r
act_shallow [] r e = cc
act_shallow (parent ∷ []) r e = from_one IsShallow row.Act (optional_in act_in parent) r e (λ p is. tt)
act_shallow (parent ∷ more ∷ others) r e = cc

var_shallow : (parts : List Sexp) (r : Row) → FitAt 0 parts → var_row parts ≡ Ok r → IsShallow r
var_shallow [] r fits e = cc
var_shallow (x ∷ []) r fits e = cc
var_shallow (x ∷ value ∷ []) r fits e =
    let after_x = (first_fits 0 x (value ∷ []) fits).1 in
    from_two IsShallow (λ x v. row.Var (record { name = x; value = v })) (name_in x) (val_in value) r e
    (λ n v is_n is_v. val_shallow value (item_cases value) v (first_fits 0 value [] after_x).0 is_v)
var_shallow (x ∷ value ∷ more ∷ others) r fits e = cc

on_shallow : (parts : List Sexp) (r : Row) → FitAt 0 parts → on_row parts ≡ Ok r → IsShallow r
on_shallow [] r fits e = cc
on_shallow (code ∷ []) r fits e = from_one IsShallow row.On (code_in code) r e (λ c is. code_inside Inside 0 inside_one code (item_cases code) c (first_fits 0 code [] fits).0 is)
on_shallow (code ∷ more ∷ others) r fits e = cc

page_shallow : (parts : List Sexp) (r : Row) → page_row parts ≡ Ok r → IsShallow r
page_shallow [] r e = cc
page_shallow (url ∷ []) r e = cc
page_shallow (url ∷ win ∷ []) r e = cc
page_shallow (url ∷ win ∷ root ∷ []) r e = cc
page_shallow (url ∷ win ∷ root ∷ act ∷ []) r e = cc
page_shallow (url ∷ win ∷ root ∷ act ∷ next ∷ []) r e =
    from_five IsShallow row.Page (address_in url) (win_in win) (node_in root) (act_in act) (number_in next) r e (λ u w o a n. tt)
page_shallow (url ∷ win ∷ root ∷ act ∷ next ∷ more ∷ others) r e = cc

ready_shallow : (parts : List Sexp) (r : Row) → ready_row parts ≡ Ok r → IsShallow r
ready_shallow [] r e = cc
ready_shallow (body ∷ []) r e = from_one IsShallow (λ b. row.Queued (Ready b)) (body_in body) r e (λ b is. tt)
ready_shallow (body ∷ more ∷ others) r e = cc

wait_shallow : (parts : List Sexp) (r : Row) → wait_row parts ≡ Ok r → IsShallow r
wait_shallow [] r e = cc
wait_shallow (slot ∷ []) r e = from_one IsShallow (λ n. row.Queued (Wait n)) (number_in slot) r e (λ n is. tt)
wait_shallow (slot ∷ more ∷ others) r e = cc

win_shallow : (parts : List Sexp) (r : Row) → win_row parts ≡ Ok r → IsShallow r
win_shallow [] r e = cc
win_shallow (page ∷ []) r e = cc
win_shallow (page ∷ opener ∷ []) r e = cc
win_shallow (page ∷ opener ∷ text ∷ []) r e =
    from_three IsShallow (λ p o t. row.Win (record { page = record { 0 = p }; opener = o; name = t })) (number_in page) (optional_in win_in opener) (optional_in string_in text) r e (λ p o t is_p is_o is_t. tt)
win_shallow (page ∷ opener ∷ text ∷ more ∷ others) r e = cc

cookie_shallow : (parts : List Sexp) (r : Row) → cookie_row parts ≡ Ok r → IsShallow r
cookie_shallow [] r e = cc
cookie_shallow (domain ∷ []) r e = cc
cookie_shallow (domain ∷ key ∷ []) r e = cc
cookie_shallow (domain ∷ key ∷ value ∷ []) r e =
    from_three IsShallow (λ d k v. row.Cookie (record { domain = d; key = k; value = v })) (domain_in domain) (string_in key) (string_in value) r e (λ d k v is_d is_k is_v. tt)
cookie_shallow (domain ∷ key ∷ value ∷ more ∷ others) r e = cc

ask_shallow : (parts : List Sexp) (r : Row) → FitAt 0 parts → ask_row parts ≡ Ok r → IsShallow r
ask_shallow [] r fits e = cc
ask_shallow (domain ∷ []) r fits e = cc
ask_shallow (domain ∷ uri ∷ []) r fits e = cc
ask_shallow (domain ∷ uri ∷ to ∷ []) r fits e =
    let after_domain = (first_fits 0 domain (uri ∷ to ∷ []) fits).1 in
    let after_uri = (first_fits 0 uri (to ∷ []) after_domain).1 in
    from_three IsShallow (λ d u t. row.Ask (record { domain = d; pending = record { uri = u; dst = t } })) (domain_in domain) (string_in uri) (dst_in to) r e
    (λ d u t is_d is_u is_t. dst_shallow to (item_cases to) t (first_fits 0 to [] after_uri).0 is_t)
ask_shallow (domain ∷ uri ∷ to ∷ more ∷ others) r fits e = cc

end_shallow : (parts : List Sexp) (r : Row) → end_row parts ≡ Ok r → IsShallow r
end_shallow [] r e = as_made IsShallow e tt
end_shallow (part ∷ parts) r e = cc

row_of_shallow : (order : Order) (k : RowKind) (parts : List Sexp) (r : Row) → FitAt 0 parts → row_of order k parts ≡ Ok r → IsShallow r
row_of_shallow order of.Head parts r fits e = head_shallow parts r e
row_of_shallow order of.Policy parts r fits e = policy_shallow parts r e
row_of_shallow order of.Class parts r fits e = from_one IsShallow row.Class (levels_in order parts) r e (λ levels is. tt)
row_of_shallow order of.Mass parts r fits e = mass_shallow parts r e
row_of_shallow order of.Act parts r fits e = act_shallow parts r e
row_of_shallow order of.Var parts r fits e = var_shallow parts r fits e
row_of_shallow order of.Node parts r fits e = from_one IsShallow row.Node (shape_in parts) r e (λ shape is. tt)
row_of_shallow order of.On parts r fits e = on_shallow parts r fits e
row_of_shallow order of.Kids parts r fits e = from_one IsShallow row.Kids (each_in node_in parts) r e (λ nodes is. tt)
row_of_shallow order of.Page parts r fits e = page_shallow parts r e
row_of_shallow order of.Ready parts r fits e = ready_shallow parts r e
row_of_shallow order of.Wait parts r fits e = wait_shallow parts r e
row_of_shallow order of.Win parts r fits e = win_shallow parts r e
row_of_shallow order of.Open parts r fits e = from_one IsShallow row.Open (each_in win_in parts) r e (λ wins is. tt)
row_of_shallow order of.Cookie parts r fits e = cookie_shallow parts r e
row_of_shallow order of.Ask parts r fits e = ask_shallow parts r fits e
row_of_shallow order of.End parts r fits e = end_shallow parts r e

row_by_shallow : (order : Order) (k : Option RowKind) (parts : List Sexp) (r : Row) → FitAt 0 parts → row_by order k parts ≡ Ok r → IsShallow r
row_by_shallow order None parts r fits e = cc
row_by_shallow order (Some k) parts r fits e = row_of_shallow order k parts r fits e

row_in_shallow : (order : Order) (items : List Sexp) (r : Row) → FitAt 0 items → row_in order items ≡ Ok r → IsShallow r
row_in_shallow order [] r fits e = cc
row_in_shallow order (first ∷ parts) r fits e = row_by_shallow order (row_kind_of first) parts r (first_fits 0 first parts fits).1 e

answer_shallow : (order : Order) (line : List ℕ) (answer : Result Row LineFault) (r : Row) → ReadsRow order line answer → answer ≡ Ok r → IsShallow r
answer_shallow order line _ r (bad_text which first) e = cc
answer_shallow order line answer r (as_items items _ spells is) e = row_in_shallow order items r (well_spelled_items line items spells) (sym is ∙ e)

pub read_shallow : (order : Order) (line : List ℕ) (r : Row) → ReadsRow order line (Ok r) → IsShallow r
read_shallow order line r reads = answer_shallow order line (Ok r) r reads refl
