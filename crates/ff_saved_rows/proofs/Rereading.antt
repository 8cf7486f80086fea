-- What is printed for a row is read as the row.
use Rattle.std.proofs.Common.{◌≡◌, true, List, [], ◌∷◌, Some, Ok, codes, sym, ap, ◌∙◌}
use Rattle.ff_value.specs.Spelled.{IsNat}
use Rattle.ff_value.specs.declared.ids.NodeId.{NodeId}
use Rattle.ff_value.specs.declared.ids.WinId.{WinId}
use Rattle.ff_text.specs.Printed.{bare}
use Rattle.ff_text.specs.declared.items.Sexp.{Sexp}
use Rattle.ff_forms.specs.Canonical.{word}
use Rattle.ff_lattice.specs.Order.{Order}
use Rattle.ff_machine.specs.Kinds as kinds
use Rattle.ff_machine.specs.Shapes.{kind_of}
use Rattle.ff_machine.specs.declared.kinds.Kind.{Kind}
use Rattle.ff_machine.specs.declared.records.Entry.TheVariants.{Ready, Wait}
use Rattle.ff_machine.specs.declared.records.Shape.{Shape}
use Rattle.ff_machine.specs.declared.records.Shape.TheVariants as shape
use Rattle.ff_trace.specs.Parts.{number_in, address_in, domain_in, string_in, by_word}
use Rattle.ff_trace.specs.Printed.{number}
use Rattle.ff_trace.specs.declared.fault.LineFault.TheVariants as fault
use Rattle.ff_trace.proofs.Back.{line_back}
use Rattle.ff_trace.proofs.Bare.{word_from, Again, none, more, again_from}
use Rattle.ff_trace.proofs.Reread.{number_again, address_again, domain_again, string_again}
use Rattle.ff_saved_rows.specs.Words.{row_word, row_own, node_own}
use Rattle.ff_saved_rows.specs.declared.kinds.RowKind.{RowKind}
use Rattle.ff_saved_rows.specs.declared.kinds.RowKind.TheVariants as of
use Rattle.ff_saved_rows.specs.declared.row.Row.{Row}
use Rattle.ff_saved_rows.specs.declared.row.Row.TheVariants as row
use Rattle.ff_saved_rows.specs.Rows.{row_items, row_text, shape_parts, IsRow, IsShown, FitsLine}
use Rattle.ff_saved_rows.specs.Reading.{each_in, name_in, body_in, truth_in, optional_in, node_in, win_in, act_in, levels_in, code_in, val_in, dst_in, shape_of, node_kind, node_kind_of, shape_by, shape_in, version_of, version_in, row_kind, row_kind_of, row_by, row_of, row_in, ReadsRow, as_items}
use Rattle.ff_saved_rows.proofs.Again.{one_again, two_again, three_again, five_again, each_again, name_again, body_again, truth_again, node_again, win_again, act_again, parent_again, opener_again, win_name_again, code_again, val_again, dst_again}
use Rattle.ff_saved_rows.proofs.Classes.{class_again}

-- the shape of a node

shape_again : (s : Shape) → IsShown s → (parts : List Sexp) → Again parts (shape_parts s) → shape_of (kind_of s) parts ≡ Ok s
shape_again (shape.Page page) good parts (more p _ _ _ at_p none) = one_again (λ n. shape.Page (record { 0 = n })) (number_in p) page.0 (number_again p page.0 good at_p)
shape_again (shape.Text x text) good parts (more n _ _ _ at_n (more t _ _ _ at_t none)) = two_again shape.Text (name_in n) (string_in t) x text (name_again n x good.0 at_n) (string_again t text at_t)
shape_again (shape.Link x url label) good parts (more n _ _ _ at_n (more u _ _ _ at_u (more l _ _ _ at_l none))) =
    three_again shape.Link (name_in n) (address_in u) (string_in l) x url label (name_again n x good.0 at_n) (address_again u url good.1 at_u) (string_again l label at_l)
shape_again (shape.TextBox x text) good parts (more n _ _ _ at_n (more t _ _ _ at_t none)) = two_again shape.TextBox (name_in n) (string_in t) x text (name_again n x good.0 at_n) (string_again t text at_t)
shape_again (shape.Button x label) good parts (more n _ _ _ at_n (more l _ _ _ at_l none)) = two_again shape.Button (name_in n) (string_in l) x label (name_again n x good.0 at_n) (string_again l label at_l)
shape_again (shape.Script x started body) good parts (more n _ _ _ at_n (more s _ _ _ at_s (more b _ _ _ at_b none))) =
    three_again shape.Script (name_in n) (truth_in s) (body_in b) x started body (name_again n x good.0 at_n) (truth_again s started at_s) (body_again b body good.1 at_b)
shape_again (shape.Src x started url) good parts (more n _ _ _ at_n (more s _ _ _ at_s (more u _ _ _ at_u none))) =
    three_again shape.Src (name_in n) (truth_in s) (address_in u) x started url (name_again n x good.0 at_n) (truth_again s started at_s) (address_again u url good.1 at_u)
shape_again (shape.Div x) good parts (more n _ _ _ at_n none) = one_again shape.Div (name_in n) x (name_again n x good at_n)

node_kind_again : (item : Sexp) (k : Kind) → bare item ≡ bare (word (kinds.kind_word k)) → node_kind_of item ≡ Some k
node_kind_again item k same = let is = word_from item (kinds.kind_word k) same in ap node_kind is.is ∙ node_own k

node_row_again : (s : Shape) → IsShown s → (parts : List Sexp) → Again parts (word (kinds.kind_word (kind_of s)) ∷ shape_parts s) → shape_in parts ≡ Ok s
node_row_again s good parts (more k _ rest _ at_k again) = ap (λ kind. shape_by kind rest) (node_kind_again k (kind_of s) at_k) ∙ shape_again s good rest again

-- a row

row_kind_again : (item : Sexp) (k : RowKind) → bare item ≡ bare (word (row_word k)) → row_kind_of item ≡ Some k
row_kind_again item k same = let is = word_from item (row_word k) same in ap row_kind is.is ∙ row_own k

begun : (order : Order) (item : Sexp) (parts : List Sexp) (k : RowKind) → bare item ≡ bare (word (row_word k)) → row_in order (item ∷ parts) ≡ row_of order k parts
begun order item parts k same = ap (λ kind. row_by order kind parts) (row_kind_again item k same)

version_again : (item : Sexp) → bare item ≡ bare (word (codes "1")) → version_in item ≡ Ok true
version_again item same = let is = word_from item (codes "1") same in ap (by_word fault.Number version_of) is.is

-- what is read from the items of a row, whatever their places, is the row
row_again : (order : Order) (one : Row) → IsRow order one → (items : List Sexp) → Again items (row_items order one) → row_in order items ≡ Ok one
row_again order row.Head good items (more h _ _ _ at_h (more v _ _ _ at_v none)) =
    begun order h (v ∷ []) of.Head at_h ∙ one_again (λ one. row.Head) (version_in v) true (version_again v at_v)
row_again order (row.Policy text) good items (more h _ _ _ at_h (more t _ _ _ at_t none)) =
    begun order h (t ∷ []) of.Policy at_h ∙ one_again row.Policy (string_in t) text (string_again t text at_t)
row_again order (row.Class levels) good items (more h _ parts _ at_h again) =
    begun order h parts of.Class at_h ∙ one_again row.Class (levels_in order parts) levels (class_again order good.0 parts levels good.1 good.2 again)
row_again order (row.Mass mass) good items (more h _ _ _ at_h (more m _ _ _ at_m none)) =
    begun order h (m ∷ []) of.Mass at_h ∙ one_again row.Mass (number_in m) mass (number_again m mass good at_m)
row_again order (row.Act parent) good items (more h _ _ _ at_h (more p _ _ _ at_p none)) =
    begun order h (p ∷ []) of.Act at_h ∙ one_again row.Act (optional_in act_in p) parent (parent_again p parent good at_p)
row_again order (row.Var var) good items (more h _ _ _ at_h (more x _ _ _ at_x (more v _ _ _ at_v none))) =
    begun order h (x ∷ v ∷ []) of.Var at_h
    ∙ two_again (λ x v. row.Var (record { name = x; value = v })) (name_in x) (val_in v) var.name var.value (name_again x var.name good.0 at_x) (val_again v var.value good.1 at_v)
row_again order (row.Node s) good items (more h _ parts _ at_h again) =
    begun order h parts of.Node at_h ∙ one_again row.Node (shape_in parts) s (node_row_again s good parts again)
row_again order (row.On code) good items (more h _ _ _ at_h (more c _ _ _ at_c none)) =
    begun order h (c ∷ []) of.On at_h ∙ one_again row.On (code_in c) code (code_again c code good.0 good.1 at_c)
row_again order (row.Kids kids) good items (more h _ parts _ at_h again) =
    begun order h parts of.Kids at_h ∙ one_again row.Kids (each_in node_in parts) kids (each_again node_in (λ n. number n.0) (λ (n : NodeId). IsNat n.0) node_again parts kids good again)
row_again order (row.Page url win root act next) good items (more h _ _ _ at_h (more u _ _ _ at_u (more w _ _ _ at_w (more r _ _ _ at_r (more a _ _ _ at_a (more n _ _ _ at_n none)))))) =
    begun order h (u ∷ w ∷ r ∷ a ∷ n ∷ []) of.Page at_h
    ∙ five_again row.Page (address_in u) (win_in w) (node_in r) (act_in a) (number_in n) url win root act next
    (address_again u url good.0 at_u) (win_again w win good.1 at_w) (node_again r root good.2 at_r) (act_again a act good.3 at_a) (number_again n next good.4 at_n)
row_again order (row.Queued (Ready body)) good items (more h _ _ _ at_h (more b _ _ _ at_b none)) =
    begun order h (b ∷ []) of.Ready at_h ∙ one_again (λ e. row.Queued (Ready e)) (body_in b) body (body_again b body good at_b)
row_again order (row.Queued (Wait slot)) good items (more h _ _ _ at_h (more s _ _ _ at_s none)) =
    begun order h (s ∷ []) of.Wait at_h ∙ one_again (λ n. row.Queued (Wait n)) (number_in s) slot (number_again s slot good at_s)
row_again order (row.Win rec) good items (more h _ _ _ at_h (more p _ _ _ at_p (more o _ _ _ at_o (more t _ _ _ at_t none)))) =
    begun order h (p ∷ o ∷ t ∷ []) of.Win at_h
    ∙ three_again (λ p o t. row.Win (record { page = record { 0 = p }; opener = o; name = t })) (number_in p) (optional_in win_in o) (optional_in string_in t) rec.page.0 rec.opener rec.name
    (number_again p rec.page.0 good.0 at_p) (opener_again o rec.opener good.1 at_o) (win_name_again t rec.name at_t)
row_again order (row.Open wins) good items (more h _ parts _ at_h again) =
    begun order h parts of.Open at_h ∙ one_again row.Open (each_in win_in parts) wins (each_again win_in (λ w. number w.0) (λ (w : WinId). IsNat w.0) win_again parts wins good again)
row_again order (row.Cookie rec) good items (more h _ _ _ at_h (more d _ _ _ at_d (more k _ _ _ at_k (more v _ _ _ at_v none)))) =
    begun order h (d ∷ k ∷ v ∷ []) of.Cookie at_h
    ∙ three_again (λ d k v. row.Cookie (record { domain = d; key = k; value = v })) (domain_in d) (string_in k) (string_in v) rec.domain rec.key rec.value
    (domain_again d rec.domain good.0 at_d) (string_again k rec.key at_k) (string_again v rec.value at_v)
row_again order (row.Ask rec) good items (more h _ _ _ at_h (more d _ _ _ at_d (more u _ _ _ at_u (more t _ _ _ at_t none)))) =
    begun order h (d ∷ u ∷ t ∷ []) of.Ask at_h
    ∙ three_again (λ d u t. row.Ask (record { domain = d; pending = record { uri = u; dst = t } })) (domain_in d) (string_in u) (dst_in t) rec.domain rec.pending.uri rec.pending.dst
    (domain_again d rec.domain good.0 at_d) (string_again u rec.pending.uri at_u) (dst_again t rec.pending.dst good.2 at_t)
row_again order row.End good items (more h _ _ _ at_h none) = begun order h [] of.End at_h

-- the line of a row says the row
pub line_again : (order : Order) (one : Row) → IsRow order one → FitsLine order one → ReadsRow order (row_text order one) (Ok one)
line_again order one good fits =
    let back = line_back (row_items order one) fits.nested in
    as_items back.again (Ok one) back.spells (sym (row_again order one good back.again (again_from back.again (row_items order one) back.same)))
