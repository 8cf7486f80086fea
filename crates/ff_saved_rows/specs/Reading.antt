-- What a line says as a row: which parts follow each kind of row, and what they make of it. A line
-- that says a row in another spelling than the row's own says it all the same.
use Rattle.std.specs.Prelude.{◌≡◌, ℕ, Bool, true, false, ◌==◌, ◌||◌, if◌then◌else◌, Option, Some, None, Result, Ok, Err, List, [], ◌∷◌, codes}
use Rattle.std.specs.Str.{bytes_eq}
use Rattle.ff_term.specs.Whole.{literal}
use Rattle.ff_contract.specs.Answering.{Answers}
use Rattle.ff_name.specs.Words.{with_word}
use Rattle.ff_name.specs.declared.levels.Level.{Level}
use Rattle.ff_tree.specs.declared.tree.Doc.{Doc}
use Rattle.ff_tree.specs.declared.tree.Doc.TheOpen.{Expr-F}
use Rattle.ff_tree.specs.declared.tree.Doc.TheViews.{out-Expr}
use Rattle.ff_tree.specs.declared.tree.Expr.{Expr}
use Rattle.ff_tree.specs.declared.tree.Handler.{Handler}
use Rattle.ff_tree.specs.declared.tree.Lit.{Lit}
use Rattle.ff_tree.specs.declared.tree.Lit.TheVariants as lit
use Rattle.ff_value.specs.declared.ids.ActId.{ActId}
use Rattle.ff_value.specs.declared.ids.NodeId.{NodeId}
use Rattle.ff_value.specs.declared.ids.WinId.{WinId}
use Rattle.ff_value.specs.declared.value.Code.{Code}
use Rattle.ff_value.specs.declared.value.Val.{Val}
use Rattle.ff_value.specs.declared.value.Val.TheVariants as val
use Rattle.ff_text.specs.Notation.{SpellsItems}
use Rattle.ff_text.specs.Faults.{FirstFault}
use Rattle.ff_text.specs.declared.items.Sexp.{Sexp, out-Sexp}
use Rattle.ff_text.specs.declared.items.Sexp.TheOpen.{Sexp-F}
use Rattle.ff_text.specs.declared.items.TextFault.{TextFault}
use Rattle.ff_forms.specs.Grammar.{reading, a_name, parameters, an_expression}
use Rattle.ff_lattice.specs.LevelSet.{has, levels_where}
use Rattle.ff_lattice.specs.Order.{Order, level_named}
use Rattle.ff_trace.specs.Parts.{or_fault, or_syntax, by_word, number_in, address_in, domain_in, string_in}
use Rattle.ff_trace.specs.declared.fault.LineFault.{LineFault}
use Rattle.ff_trace.specs.declared.fault.LineFault.TheVariants as fault
use Rattle.ff_machine.specs.Kinds as kinds
use Rattle.ff_machine.specs.declared.kinds.Kind.{Kind}
use Rattle.ff_machine.specs.declared.kinds.Kind.TheVariants as kind
use Rattle.ff_machine.specs.declared.records.Dst.{Dst}
use Rattle.ff_machine.specs.declared.records.Dst.TheVariants as dst
use Rattle.ff_machine.specs.declared.records.Entry.TheVariants.{Ready, Wait}
use Rattle.ff_machine.specs.declared.records.Shape.{Shape}
use Rattle.ff_machine.specs.declared.records.Shape.TheVariants as shape
use Rattle.ff_saved_rows.specs.Words.{row_word, list_word, node_kinds}
use Rattle.ff_saved_rows.specs.declared.kinds.RowKind.{RowKind}
use Rattle.ff_saved_rows.specs.declared.kinds.RowKind.TheVariants as of
use Rattle.ff_saved_rows.specs.declared.kinds.ListKind.{ListKind}
use Rattle.ff_saved_rows.specs.declared.kinds.ListKind.TheVariants as list
use Rattle.ff_saved_rows.specs.declared.kinds.TheConstants.{ROW_KINDS, LIST_KINDS}
use Rattle.ff_saved_rows.specs.declared.row.Row.{Row}
use Rattle.ff_saved_rows.specs.declared.row.Row.TheVariants as row

-- Parts that are read from left to right: the first one at fault decides.

abbrev pub of_one : {A X : Type 0} → (A → X) → Result A LineFault → Result X LineFault
of_one make (Ok a) = Ok (make a)
of_one make (Err which) = Err which

abbrev pub of_two : {A B X : Type 0} → (A → B → X) → Result A LineFault → Result B LineFault → Result X LineFault
of_two make (Ok a) second = of_one (make a) second
of_two make (Err which) second = Err which

abbrev pub of_three : {A B C X : Type 0} → (A → B → C → X) → Result A LineFault → Result B LineFault → Result C LineFault → Result X LineFault
of_three make (Ok a) second third = of_two (make a) second third
of_three make (Err which) second third = Err which

abbrev pub of_five : {A B C D E X : Type 0} → (A → B → C → D → E → X) → Result A LineFault → Result B LineFault → Result C LineFault → Result D LineFault → Result E LineFault → Result X LineFault
of_five make (Ok a) (Ok b) third fourth fifth = of_three (make a b) third fourth fifth
of_five make (Ok a) (Err which) third fourth fifth = Err which
of_five make (Err which) second third fourth fifth = Err which

-- each of some items, from left to right
abbrev pub each_in : {A : Type 0} → (Sexp → Result A LineFault) → List Sexp → Result (List A) LineFault
each_in read [] = Ok []
each_in read (item ∷ items) = of_two (λ x xs. x ∷ xs) (read item) (each_in read items)

-- Words, numbers and values.

abbrev pub name_in : Sexp → Result (List ℕ) LineFault
name_in item = or_syntax (reading item a_name)

abbrev pub params_in : Sexp → Result (List (List ℕ)) LineFault
params_in item = or_syntax (reading item parameters)

abbrev pub body_in : Sexp → Result Expr LineFault
body_in item = or_syntax (reading item an_expression)

abbrev pub truth_of : List ℕ → Option Bool
truth_of word = if bytes_eq (codes "true") word then Some true else if bytes_eq (codes "false") word then Some false else None

abbrev pub truth_in : Sexp → Result Bool LineFault
truth_in item = by_word fault.Kind truth_of (out-Sexp item)

-- a thing, or the word `none`
abbrev pub is_none_word : Sexp-F Sexp → Bool
is_none_word (Sexp-F.Word at text) = bytes_eq text (codes "none")
is_none_word (Sexp-F.Str at value) = false
is_none_word (Sexp-F.List at parts) = false

abbrev pub is_none : Sexp → Bool
is_none item = is_none_word (out-Sexp item)

abbrev pub optional_in : {A : Type 0} → (Sexp → Result A LineFault) → Sexp → Result (Option A) LineFault
optional_in read item = if is_none item then Ok None else of_one Some (read item)

abbrev pub node_in : Sexp → Result NodeId LineFault
node_in item = of_one (λ n. record { 0 = n }) (number_in item)

abbrev pub win_in : Sexp → Result WinId LineFault
win_in item = of_one (λ n. record { 0 = n }) (number_in item)

abbrev pub act_in : Sexp → Result ActId LineFault
act_in item = of_one (λ n. record { 0 = n }) (number_in item)

-- the level that a word names
abbrev pub or_level : Option Level → Result Level LineFault
or_level found = or_fault fault.Level found

abbrev pub level_word : Order → Sexp-F Sexp → Result Level LineFault
level_word order (Sexp-F.Word at text) = or_level (level_named order text)
level_word order (Sexp-F.Str at value) = Err fault.Level
level_word order (Sexp-F.List at parts) = Err fault.Level

abbrev pub level_in : Order → Sexp → Result Level LineFault
level_in order item = level_word order (out-Sexp item)

-- the set with these levels besides its own
abbrev pub with_levels : List ℕ → List Level → List ℕ
with_levels set [] = set
with_levels set (l ∷ levels) = with_levels (levels_where (λ m. has set m || m == l.0)) levels

abbrev pub levels_in : Order → List Sexp → Result (List ℕ) LineFault
levels_in order items = of_one (with_levels []) (each_in (level_in order) items)

-- Lists within rows.

abbrev pub list_kind : Sexp-F Sexp → Option ListKind
list_kind (Sexp-F.Word at text) = with_word list_word LIST_KINDS text
list_kind (Sexp-F.Str at value) = None
list_kind (Sexp-F.List at parts) = None

abbrev pub list_kind_of : Sexp → Option ListKind
list_kind_of item = list_kind (out-Sexp item)

abbrev pub made_code : ℕ → List (List ℕ) → Expr → Code
made_code act params body = record { env = record { 0 = act }; params = params; body = body }

abbrev pub code_of : Option ListKind → List Sexp → Result Code LineFault
code_of (Some list.Code) (act ∷ params ∷ body ∷ []) = of_three made_code (number_in act) (params_in params) (body_in body)
code_of _ _ = Err fault.Kind

abbrev pub code_list : List Sexp → Result Code LineFault
code_list [] = Err fault.Kind
code_list (head ∷ parts) = code_of (list_kind_of head) parts

abbrev pub code_layer : Sexp-F Sexp → Result Code LineFault
code_layer (Sexp-F.List at parts) = code_list parts
code_layer other = Err fault.Kind

abbrev pub code_in : Sexp → Result Code LineFault
code_in item = code_layer (out-Sexp item)

abbrev pub lit_layer : Expr-F Doc Expr Handler → Result Val LineFault
lit_layer (Expr-F.Lit l) = Ok (literal l)
lit_layer other = Err fault.Kind

abbrev pub lit_val : Result Expr LineFault → Result Val LineFault
lit_val (Ok e) = lit_layer (out-Expr e)
lit_val (Err which) = Err which

abbrev pub held_of : Option ListKind → List Sexp → Result Val LineFault
held_of (Some list.Win) (win ∷ []) = of_one val.Win (win_in win)
held_of (Some list.Node) (node ∷ []) = of_one val.Node (node_in node)
held_of (Some list.Code) parts = of_one val.Code (code_of (Some list.Code) parts)
held_of _ _ = Err fault.Kind

abbrev pub held_list : List Sexp → Result Val LineFault
held_list [] = Err fault.Kind
held_list (head ∷ parts) = held_of (list_kind_of head) parts

abbrev pub val_layer : Sexp → Sexp-F Sexp → Result Val LineFault
val_layer item (Sexp-F.List at parts) = held_list parts
val_layer item other = lit_val (body_in item)

abbrev pub val_in : Sexp → Result Val LineFault
val_in item = val_layer item (out-Sexp item)

abbrev pub dst_of : Option ListKind → List Sexp → Result Dst LineFault
dst_of (Some list.Win) (win ∷ []) = of_one dst.Window (win_in win)
dst_of (Some list.Slot) (page ∷ slot ∷ []) = of_two (λ p s. dst.Slot (record { 0 = p }) s) (number_in page) (number_in slot)
dst_of (Some list.Call) (page ∷ code ∷ []) = of_two (λ p c. dst.Call (record { 0 = p }) c) (number_in page) (code_in code)
dst_of _ _ = Err fault.Kind

abbrev pub dst_list : List Sexp → Result Dst LineFault
dst_list [] = Err fault.Kind
dst_list (head ∷ parts) = dst_of (list_kind_of head) parts

abbrev pub dst_layer : Sexp-F Sexp → Result Dst LineFault
dst_layer (Sexp-F.List at parts) = dst_list parts
dst_layer other = Err fault.Kind

abbrev pub dst_in : Sexp → Result Dst LineFault
dst_in item = dst_layer (out-Sexp item)

-- Rows.

-- which parts follow the kind of a node
abbrev pub shape_of : Kind → List Sexp → Result Shape LineFault
shape_of kind.Page (page ∷ []) = of_one (λ n. shape.Page (record { 0 = n })) (number_in page)
shape_of kind.Text (x ∷ text ∷ []) = of_two shape.Text (name_in x) (string_in text)
shape_of kind.Link (x ∷ url ∷ label ∷ []) = of_three shape.Link (name_in x) (address_in url) (string_in label)
shape_of kind.TextBox (x ∷ text ∷ []) = of_two shape.TextBox (name_in x) (string_in text)
shape_of kind.Button (x ∷ label ∷ []) = of_two shape.Button (name_in x) (string_in label)
shape_of kind.Script (x ∷ started ∷ body ∷ []) = of_three shape.Script (name_in x) (truth_in started) (body_in body)
shape_of kind.Src (x ∷ started ∷ url ∷ []) = of_three shape.Src (name_in x) (truth_in started) (address_in url)
shape_of kind.Div (x ∷ []) = of_one shape.Div (name_in x)
shape_of _ _ = Err fault.Count

abbrev pub node_kind : Sexp-F Sexp → Option Kind
node_kind (Sexp-F.Word at text) = with_word kinds.kind_word node_kinds text
node_kind (Sexp-F.Str at value) = None
node_kind (Sexp-F.List at parts) = None

abbrev pub node_kind_of : Sexp → Option Kind
node_kind_of item = node_kind (out-Sexp item)

abbrev pub shape_by : Option Kind → List Sexp → Result Shape LineFault
shape_by None parts = Err fault.Kind
shape_by (Some k) parts = shape_of k parts

abbrev pub shape_in : List Sexp → Result Shape LineFault
shape_in [] = Err fault.Count
shape_in (first ∷ parts) = shape_by (node_kind_of first) parts

-- the one version that there is
abbrev pub version_of : List ℕ → Option Bool
version_of word = if bytes_eq (codes "1") word then Some true else None

abbrev pub version_in : Sexp → Result Bool LineFault
version_in item = by_word fault.Number version_of (out-Sexp item)

-- which parts follow each kind of row

abbrev pub head_row : List Sexp → Result Row LineFault
head_row (version ∷ []) = of_one (λ one. row.Head) (version_in version)
head_row _ = Err fault.Count

abbrev pub policy_row : List Sexp → Result Row LineFault
policy_row (text ∷ []) = of_one row.Policy (string_in text)
policy_row _ = Err fault.Count

abbrev pub mass_row : List Sexp → Result Row LineFault
mass_row (mass ∷ []) = of_one row.Mass (number_in mass)
mass_row _ = Err fault.Count

abbrev pub act_row : List Sexp → Result Row LineFault
act_row (parent ∷ []) = of_one row.Act (optional_in act_in parent)
act_row _ = Err fault.Count

abbrev pub var_row : List Sexp → Result Row LineFault
var_row (x ∷ value ∷ []) = of_two (λ x v. row.Var (record { name = x; value = v })) (name_in x) (val_in value)
var_row _ = Err fault.Count

abbrev pub on_row : List Sexp → Result Row LineFault
on_row (code ∷ []) = of_one row.On (code_in code)
on_row _ = Err fault.Count

abbrev pub page_row : List Sexp → Result Row LineFault
page_row (url ∷ win ∷ root ∷ act ∷ next ∷ []) = of_five row.Page (address_in url) (win_in win) (node_in root) (act_in act) (number_in next)
page_row _ = Err fault.Count

abbrev pub ready_row : List Sexp → Result Row LineFault
ready_row (body ∷ []) = of_one (λ e. row.Queued (Ready e)) (body_in body)
ready_row _ = Err fault.Count

abbrev pub wait_row : List Sexp → Result Row LineFault
wait_row (slot ∷ []) = of_one (λ n. row.Queued (Wait n)) (number_in slot)
wait_row _ = Err fault.Count

abbrev pub win_row : List Sexp → Result Row LineFault
win_row (page ∷ opener ∷ text ∷ []) = of_three (λ p o t. row.Win (record { page = record { 0 = p }; opener = o; name = t })) (number_in page) (optional_in win_in opener) (optional_in string_in text)
win_row _ = Err fault.Count

abbrev pub cookie_row : List Sexp → Result Row LineFault
cookie_row (domain ∷ key ∷ value ∷ []) = of_three (λ d k v. row.Cookie (record { domain = d; key = k; value = v })) (domain_in domain) (string_in key) (string_in value)
cookie_row _ = Err fault.Count

abbrev pub ask_row : List Sexp → Result Row LineFault
ask_row (domain ∷ uri ∷ to ∷ []) = of_three (λ d u t. row.Ask (record { domain = d; pending = record { uri = u; dst = t } })) (domain_in domain) (string_in uri) (dst_in to)
ask_row _ = Err fault.Count

abbrev pub end_row : List Sexp → Result Row LineFault
end_row [] = Ok row.End
end_row _ = Err fault.Count

abbrev pub row_of : Order → RowKind → List Sexp → Result Row LineFault
row_of order of.Head parts = head_row parts
row_of order of.Policy parts = policy_row parts
row_of order of.Class parts = of_one row.Class (levels_in order parts)
row_of order of.Mass parts = mass_row parts
row_of order of.Act parts = act_row parts
row_of order of.Var parts = var_row parts
row_of order of.Node parts = of_one row.Node (shape_in parts)
row_of order of.On parts = on_row parts
row_of order of.Kids parts = of_one row.Kids (each_in node_in parts)
row_of order of.Page parts = page_row parts
row_of order of.Ready parts = ready_row parts
row_of order of.Wait parts = wait_row parts
row_of order of.Win parts = win_row parts
row_of order of.Open parts = of_one row.Open (each_in win_in parts)
row_of order of.Cookie parts = cookie_row parts
row_of order of.Ask parts = ask_row parts
row_of order of.End parts = end_row parts

abbrev pub row_kind : Sexp-F Sexp → Option RowKind
row_kind (Sexp-F.Word at text) = with_word row_word ROW_KINDS text
row_kind (Sexp-F.Str at value) = None
row_kind (Sexp-F.List at parts) = None

abbrev pub row_kind_of : Sexp → Option RowKind
row_kind_of item = row_kind (out-Sexp item)

abbrev pub row_by : Order → Option RowKind → List Sexp → Result Row LineFault
row_by order None parts = Err fault.Kind
row_by order (Some k) parts = row_of order k parts

-- the items of a line: a kind of row and its parts
abbrev pub row_in : Order → List Sexp → Result Row LineFault
row_in order [] = Err fault.Kind
row_in order (first ∷ parts) = row_by order (row_kind_of first) parts

-- What a line says: a row, or the fault that comes first.
pub data ReadsRow (order : Order) (line : List ℕ) : Result Row LineFault → Type 0 where
  bad_text : (which : TextFault) → FirstFault line which → ReadsRow order line (Err (fault.Text which))
  as_items : (items : List Sexp) (answer : Result Row LineFault) → SpellsItems line items → answer ≡ row_in order items → ReadsRow order line answer
