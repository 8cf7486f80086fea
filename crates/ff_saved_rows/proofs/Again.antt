-- A part of a row, known in all but its places, is read as what it was printed for.
use Rattle.std.proofs.Common.{◌≡◌, ℕ, Bool, true, false, cond, List, [], ◌∷◌, map, Option, Some, None, Result, Ok, All, codes, refl, sym, ap, subst, ◌∙◌}
use Rattle.std.specs.Option.{ForSome}
use Rattle.std.specs.Fmt.{digits}
use Rattle.std.specs.Str.{bytes_eq}
use Rattle.std.proofs.lemmas.Slice.Eq.{bytes_eq-Decides}
use Rattle.std.proofs.lemmas.List.Elements.{All-head, All-tail}
use Rattle.ff_name.specs.Spelling.{IsName}
use Rattle.ff_tree.specs.Spelled.{AreParams, IsLit, IsWellSpelledExpr}
use Rattle.ff_tree.specs.declared.tree.Expr.{Expr}
use Rattle.ff_tree.specs.declared.tree.Expr.TheVariants as expr
use Rattle.ff_tree.specs.declared.tree.Lit.{Lit}
use Rattle.ff_tree.specs.declared.tree.Lit.TheVariants as lit
use Rattle.ff_tree.proofs.Layers.{IsSpelledExpr-Lit}
use Rattle.ff_value.specs.Spelled.{IsNat, IsWellSpelledCode}
use Rattle.ff_value.specs.declared.ids.ActId.{ActId}
use Rattle.ff_value.specs.declared.ids.NodeId.{NodeId}
use Rattle.ff_value.specs.declared.ids.PageId.{PageId}
use Rattle.ff_value.specs.declared.ids.WinId.{WinId}
use Rattle.ff_value.specs.declared.value.Code.{Code}
use Rattle.ff_value.specs.declared.value.Val.{Val}
use Rattle.ff_value.specs.declared.value.Val.TheVariants as val
use Rattle.ff_text.specs.Printed.{bare}
use Rattle.ff_text.specs.declared.items.Span.{Span}
use Rattle.ff_text.specs.declared.items.Sexp.{Sexp, out-Sexp}
use Rattle.ff_text.specs.declared.items.Sexp.TheVariants as sexp
use Rattle.ff_text.specs.declared.items.Sexp.TheOpen.{Sexp-F}
use Rattle.ff_forms.specs.Canonical.{word, string, parens, lit_item, expr_item}
use Rattle.ff_forms.specs.Grammar.{reading, a_name, parameters}
use Rattle.ff_reading.proofs.Completes.{expr_complete}
use Rattle.ff_reading.proofs.Given.{name_item, parameters_item}
use Rattle.ff_printing.proofs.Bare.{word_item, list_item}
use Rattle.ff_printing.proofs.Items.{expr_item-Lit}
use Rattle.ff_printing.proofs.Respelled.{expr_respelled, words_same}
use Rattle.ff_number.specs.Decimal.{nat_text, num_text}
use Rattle.ff_trace.specs.Parts.{or_syntax, by_word, number_of, number_in, string_in}
use Rattle.ff_trace.proofs.Numbers.{number_spelled}
use Rattle.ff_trace.specs.Printed.{number}
use Rattle.ff_trace.specs.declared.fault.LineFault.{LineFault}
use Rattle.ff_trace.specs.declared.fault.LineFault.TheVariants as fault
use Rattle.ff_trace.proofs.Bare.{word_from, string_from, Again, none, more, again_from}
use Rattle.ff_trace.proofs.Reread.{number_again, string_again}
use Rattle.ff_machine.specs.declared.records.Dst.{Dst}
use Rattle.ff_machine.specs.declared.records.Dst.TheVariants as dst
use Rattle.ff_saved_rows.specs.Words.{list_word, list_own}
use Rattle.ff_saved_rows.specs.declared.kinds.ListKind.{ListKind}
use Rattle.ff_saved_rows.specs.declared.kinds.ListKind.TheVariants as list
use Rattle.ff_saved_rows.specs.Rows.{act_item, win_item, name_item as text_item, truth_item, code_item, val_item, dst_item, IsHeld, IsWanted}
use Rattle.ff_saved_rows.specs.Reading.{of_one, of_two, of_three, of_five, each_in, name_in, params_in, body_in, truth_of, truth_in, is_none, is_none_word, optional_in, node_in, win_in, act_in, list_kind, list_kind_of, made_code, code_of, code_layer, code_in, lit_layer, lit_val, held_of, val_layer, val_in, dst_of, dst_layer, dst_in}
use Rattle.ff_term.specs.Whole.{literal}

-- parts that are read one after another

pub one_again : {A X : Type 0} (make : A → X) (first : Result A LineFault) (a : A) → first ≡ Ok a → of_one make first ≡ Ok (make a)
one_again make first a e = ap (of_one make) e

pub two_again : {A B X : Type 0} (make : A → B → X) (first : Result A LineFault) (second : Result B LineFault) (a : A) (b : B) → first ≡ Ok a → second ≡ Ok b → of_two make first second ≡ Ok (make a b)
two_again make first second a b e f = ap (λ r. of_two make r second) e ∙ one_again (make a) second b f

pub three_again : {A B C X : Type 0} (make : A → B → C → X) (first : Result A LineFault) (second : Result B LineFault) (third : Result C LineFault) (a : A) (b : B) (c : C) → first ≡ Ok a → second ≡ Ok b → third ≡ Ok c → of_three make first second third ≡ Ok (make a b c)
three_again make first second third a b c e f g = ap (λ r. of_three make r second third) e ∙ two_again (make a) second third b c f g

pub five_again : {A B C D E X : Type 0} (make : A → B → C → D → E → X) (first : Result A LineFault) (second : Result B LineFault) (third : Result C LineFault) (fourth : Result D LineFault) (fifth : Result E LineFault) (a : A) (b : B) (c : C) (d : D) (e : E)
    → first ≡ Ok a → second ≡ Ok b → third ≡ Ok c → fourth ≡ Ok d → fifth ≡ Ok e → of_five make first second third fourth fifth ≡ Ok (make a b c d e)
five_again make first second third fourth fifth a b c d e at_a at_b at_c at_d at_e =
    ap (λ r. of_five make r second third fourth fifth) at_a ∙ ap (λ r. of_five make (Ok a) r third fourth fifth) at_b ∙ three_again (make a b) third fourth fifth c d e at_c at_d at_e

-- words

pub name_again : (item : Sexp) (x : List ℕ) → IsName x → bare item ≡ bare (word x) → name_in item ≡ Ok x
name_again item x well same =
    let is = word_item item x same in
    ap (λ i. or_syntax (reading i a_name)) is.is ∙ ap or_syntax (name_item is.at x well)

pub params_again : (item : Sexp) (params : List (List ℕ)) → AreParams params → bare item ≡ bare (parens (map word params)) → params_in item ≡ Ok params
params_again item params well same =
    let is = list_item item (map word params) same in
    ap (λ i. or_syntax (reading i parameters)) is.is ∙ ap or_syntax (parameters_item is.at is.parts params (words_same is.parts params is.same) well)

pub body_again : (item : Sexp) (e : Expr) → IsWellSpelledExpr e → bare item ≡ bare (expr_item e) → body_in item ≡ Ok e
body_again item e well same = ap or_syntax (expr_complete item e (expr_respelled e well.spelled item same))

pub truth_again : (item : Sexp) (truth : Bool) → bare item ≡ bare (truth_item truth) → truth_in item ≡ Ok truth
truth_again item true same = let is = word_from item (codes "true") same in ap (by_word fault.Kind truth_of) is.is
truth_again item false same = let is = word_from item (codes "false") same in ap (by_word fault.Kind truth_of) is.is

-- numbers of things, and lists of them

pub node_again : (item : Sexp) (n : NodeId) → IsNat n.0 → bare item ≡ bare (number n.0) → node_in item ≡ Ok n
node_again item n small same = one_again (λ m. record { 0 = m }) (number_in item) n.0 (number_again item n.0 small same)

pub win_again : (item : Sexp) (w : WinId) → IsNat w.0 → bare item ≡ bare (number w.0) → win_in item ≡ Ok w
win_again item w small same = one_again (λ m. record { 0 = m }) (number_in item) w.0 (number_again item w.0 small same)

pub act_again : (item : Sexp) (a : ActId) → IsNat a.0 → bare item ≡ bare (number a.0) → act_in item ≡ Ok a
act_again item a small same = one_again (λ m. record { 0 = m }) (number_in item) a.0 (number_again item a.0 small same)

pub each_again : {X : Type 0} (read : Sexp → Result X LineFault) (shown : X → Sexp) (IsGood : X → Type 0) → ((item : Sexp) (x : X) → IsGood x → bare item ≡ bare (shown x) → read item ≡ Ok x)
    → (items : List Sexp) (xs : List X) → All IsGood xs → Again items (map shown xs) → each_in read items ≡ Ok xs
each_again read shown IsGood one items [] good none = refl
each_again read shown IsGood one items (x ∷ xs) good (more item _ others _ same rest) =
    two_again (λ y ys. y ∷ ys) (read item) (each_in read others) x xs (one item x (All-head IsGood x xs good) same) (each_again read shown IsGood one others xs (All-tail IsGood x xs good) rest)

-- a thing, or none

none_reads : number_of (codes "none") ≡ None
unfolding digits
none_reads = refl

no_number_word : (text : List ℕ) (n : ℕ) → number_of text ≡ Some n → bytes_eq text (codes "none") ≡ false
no_number_word text n reads = from (bytes_eq text (codes "none")) refl
  where
    from : (b : Bool) → bytes_eq text (codes "none") ≡ b → b ≡ false
    from false e = refl
    from true e =
        let is = (bytes_eq-Decides text (codes "none")).0 e in
        let e' : Some n ≡ None = sym reads ∙ ap number_of is ∙ none_reads in
        cc

number_is_some : (item : Sexp) (n : ℕ) → IsNat n → bare item ≡ bare (number n) → is_none item ≡ false
number_is_some item n small same =
    let is = word_from item (nat_text n) same in
    ap is_none_word is.is ∙ no_number_word (nat_text n) n (number_spelled n (nat_text n) small refl)

none_is_none : (item : Sexp) → bare item ≡ bare (word (codes "none")) → is_none item ≡ true
none_is_none item same = let is = word_from item (codes "none") same in ap is_none_word is.is

string_is_some : (item : Sexp) (text : List ℕ) → bare item ≡ bare (string text) → is_none item ≡ false
string_is_some item text same = let is = string_from item text same in ap is_none_word is.is

optional_none : {X : Type 0} (read : Sexp → Result X LineFault) (item : Sexp) → is_none item ≡ true → optional_in read item ≡ Ok None
optional_none read item is = ap (λ b. cond b (Ok None) (of_one Some (read item))) is

optional_some : {X : Type 0} (read : Sexp → Result X LineFault) (item : Sexp) (x : X) → is_none item ≡ false → read item ≡ Ok x → optional_in read item ≡ Ok (Some x)
optional_some read item x is e = ap (λ b. cond b (Ok None) (of_one Some (read item))) is ∙ one_again Some (read item) x e

pub parent_again : (item : Sexp) (parent : Option ActId) → ForSome parent (λ p. IsNat p.0) → bare item ≡ bare (act_item parent) → optional_in act_in item ≡ Ok parent
parent_again item None small same = optional_none act_in item (none_is_none item same)
parent_again item (Some a) small same = optional_some act_in item a (number_is_some item a.0 (small a refl) same) (act_again item a (small a refl) same)

pub opener_again : (item : Sexp) (opener : Option WinId) → ForSome opener (λ w. IsNat w.0) → bare item ≡ bare (win_item opener) → optional_in win_in item ≡ Ok opener
opener_again item None small same = optional_none win_in item (none_is_none item same)
opener_again item (Some w) small same = optional_some win_in item w (number_is_some item w.0 (small w refl) same) (win_again item w (small w refl) same)

pub win_name_again : (item : Sexp) (text : Option (List ℕ)) → bare item ≡ bare (text_item text) → optional_in string_in item ≡ Ok text
win_name_again item None same = optional_none string_in item (none_is_none item same)
win_name_again item (Some text) same = optional_some string_in item text (string_is_some item text same) (string_again item text same)

-- lists within rows

list_kind_again : (item : Sexp) (k : ListKind) → bare item ≡ bare (word (list_word k)) → list_kind_of item ≡ Some k
list_kind_again item k same = let is = word_from item (list_word k) same in ap list_kind is.is ∙ list_own k

-- an item that is a list with this head, and what follows it
record Headed (item : Sexp) (head : List ℕ) (parts : List Sexp) : Type 0 where
  at : Span
  first : Sexp
  rest : List Sexp
  is : out-Sexp item ≡ Sexp-F.List at (first ∷ rest)
  head_same : bare first ≡ bare (word head)
  rest_same : Again rest parts

headed : (item : Sexp) (head : List ℕ) (parts : List Sexp) → bare item ≡ bare (parens (word head ∷ parts)) → Headed item head parts
headed item head parts same =
    let found = list_item item (word head ∷ parts) same in
    from found.at found.parts (ap out-Sexp found.is ∙ sexp.outs-List found.at found.parts) (again_from found.parts (word head ∷ parts) found.same)
  where
    from : (at : Span) (items : List Sexp) → out-Sexp item ≡ Sexp-F.List at items → Again items (word head ∷ parts) → Headed item head parts
    from at _ is (more first _ rest _ head_same rest_same) = record { at = at; first = first; rest = rest; is = is; head_same = head_same; rest_same = rest_same }

code_parts_again : (parts : List Sexp) (code : Code) → IsWellSpelledCode code → IsNat code.env.0
    → Again parts (number code.env.0 ∷ parens (map word code.params) ∷ expr_item code.body ∷ []) → code_of (Some list.Code) parts ≡ Ok code
code_parts_again parts code well small (more a _ _ _ at_a (more p _ _ _ at_p (more b _ _ _ at_b none))) =
    three_again made_code (number_in a) (params_in p) (body_in b) code.env.0 code.params code.body
    (number_again a code.env.0 small at_a) (params_again p code.params well.params at_p) (body_again b code.body well.body at_b)

pub code_again : (item : Sexp) (code : Code) → IsWellSpelledCode code → IsNat code.env.0 → bare item ≡ bare (code_item code) → code_in item ≡ Ok code
code_again item code well small same =
    let h = headed item (codes "code") (number code.env.0 ∷ parens (map word code.params) ∷ expr_item code.body ∷ []) same in
    ap code_layer h.is ∙ ap (λ k. code_of k h.rest) (list_kind_again h.first list.Code h.head_same) ∙ code_parts_again h.rest code well small h.rest_same

-- values

lit_read : (item : Sexp) (l : Lit) → IsLit l → bare item ≡ bare (lit_item l) → lit_val (body_in item) ≡ Ok (literal l)
lit_read item l is same =
    ap (λ r. lit_val (or_syntax r)) (expr_complete item (expr.Lit l) (expr_respelled (expr.Lit l) (subst (λ (T : Type 0). T) (sym (IsSpelledExpr-Lit l)) is) item (same ∙ ap bare (sym (expr_item-Lit l)))))
    ∙ ap lit_layer (expr.outs-Lit l)

word_val : (item : Sexp) (text : List ℕ) → bare item ≡ bare (word text) → val_in item ≡ lit_val (body_in item)
word_val item text same = let is = word_from item text same in ap (val_layer item) is.is

string_val : (item : Sexp) (text : List ℕ) → bare item ≡ bare (string text) → val_in item ≡ lit_val (body_in item)
string_val item text same = let is = string_from item text same in ap (val_layer item) is.is

win_parts_again : (parts : List Sexp) (w : WinId) → IsNat w.0 → Again parts (number w.0 ∷ []) → held_of (Some list.Win) parts ≡ Ok (val.Win w)
win_parts_again parts w small (more n _ _ _ same none) = one_again val.Win (win_in n) w (win_again n w small same)

node_parts_again : (parts : List Sexp) (n : NodeId) → IsNat n.0 → Again parts (number n.0 ∷ []) → held_of (Some list.Node) parts ≡ Ok (val.Node n)
node_parts_again parts n small (more i _ _ _ same none) = one_again val.Node (node_in i) n (node_again i n small same)

held_again : (item : Sexp) (k : ListKind) (rest_parts : List Sexp) (v : Val) → bare item ≡ bare (parens (word (list_word k) ∷ rest_parts)) → ((rest : List Sexp) → Again rest rest_parts → held_of (Some k) rest ≡ Ok v) → val_in item ≡ Ok v
held_again item k rest_parts v same each =
    let h = headed item (list_word k) rest_parts same in
    ap (val_layer item) h.is ∙ ap (λ kind. held_of kind h.rest) (list_kind_again h.first k h.head_same) ∙ each h.rest h.rest_same

pub val_again : (item : Sexp) (v : Val) → IsHeld v → bare item ≡ bare (val_item v) → val_in item ≡ Ok v
val_again item val.Null held same = word_val item (codes "null") same ∙ lit_read item lit.Null held same
val_again item (val.Bool true) held same = word_val item (codes "true") same ∙ lit_read item (lit.Bool true) held same
val_again item (val.Bool false) held same = word_val item (codes "false") same ∙ lit_read item (lit.Bool false) held same
val_again item (val.Num n) held same = word_val item (num_text n) same ∙ lit_read item (lit.Num n) held same
val_again item (val.Str text) held same = string_val item text same ∙ lit_read item (lit.Str text) held same
val_again item (val.Win w) held same = held_again item list.Win (number w.0 ∷ []) (val.Win w) same (λ rest again. win_parts_again rest w held again)
val_again item (val.Node n) held same = held_again item list.Node (number n.0 ∷ []) (val.Node n) same (λ rest again. node_parts_again rest n held again)
val_again item (val.Code code) held same =
    held_again item list.Code (number code.env.0 ∷ parens (map word code.params) ∷ expr_item code.body ∷ []) (val.Code code) same
    (λ rest again. one_again val.Code (code_of (Some list.Code) rest) code (code_parts_again rest code held.0 held.1 again))

-- what a reply is for

dst_parts_again : (item : Sexp) (k : ListKind) (rest_parts : List Sexp) (d : Dst) → bare item ≡ bare (parens (word (list_word k) ∷ rest_parts)) → ((rest : List Sexp) → Again rest rest_parts → dst_of (Some k) rest ≡ Ok d) → dst_in item ≡ Ok d
dst_parts_again item k rest_parts d same each =
    let h = headed item (list_word k) rest_parts same in
    ap dst_layer h.is ∙ ap (λ kind. dst_of kind h.rest) (list_kind_again h.first k h.head_same) ∙ each h.rest h.rest_same

window_again : (parts : List Sexp) (w : WinId) → IsNat w.0 → Again parts (number w.0 ∷ []) → dst_of (Some list.Win) parts ≡ Ok (dst.Window w)
window_again parts w small (more n _ _ _ same none) = one_again dst.Window (win_in n) w (win_again n w small same)

slot_again : (parts : List Sexp) (page : PageId) (slot : ℕ) → IsNat page.0 → IsNat slot → Again parts (number page.0 ∷ number slot ∷ []) → dst_of (Some list.Slot) parts ≡ Ok (dst.Slot page slot)
slot_again parts page slot small small_slot (more p _ _ _ at_p (more s _ _ _ at_s none)) =
    two_again (λ p s. dst.Slot (record { 0 = p }) s) (number_in p) (number_in s) page.0 slot (number_again p page.0 small at_p) (number_again s slot small_slot at_s)

call_again : (parts : List Sexp) (page : PageId) (code : Code) → IsNat page.0 → IsWellSpelledCode code → IsNat code.env.0 → Again parts (number page.0 ∷ code_item code ∷ []) → dst_of (Some list.Call) parts ≡ Ok (dst.Call page code)
call_again parts page code small well small_env (more p _ _ _ at_p (more c _ _ _ at_c none)) =
    two_again (λ p c. dst.Call (record { 0 = p }) c) (number_in p) (code_in c) page.0 code (number_again p page.0 small at_p) (code_again c code well small_env at_c)

pub dst_again : (item : Sexp) (d : Dst) → IsWanted d → bare item ≡ bare (dst_item d) → dst_in item ≡ Ok d
dst_again item (dst.Window w) wanted same = dst_parts_again item list.Win (number w.0 ∷ []) (dst.Window w) same (λ rest again. window_again rest w wanted again)
dst_again item (dst.Slot page slot) wanted same = dst_parts_again item list.Slot (number page.0 ∷ number slot ∷ []) (dst.Slot page slot) same (λ rest again. slot_again rest page slot wanted.0 wanted.1 again)
dst_again item (dst.Call page code) wanted same =
    dst_parts_again item list.Call (number page.0 ∷ code_item code ∷ []) (dst.Call page code) same (λ rest again. call_again rest page code wanted.0 wanted.1 wanted.2 again)
