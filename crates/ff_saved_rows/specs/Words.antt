-- The words that begin rows and lists within rows, and those of the kinds of nodes.
use Rattle.std.specs.Prelude.{◌≡◌, ℕ, List, [], ◌∷◌, Some, codes, refl}
use Rattle.ff_name.specs.Words.{with_word}
use Rattle.ff_machine.specs.Kinds.{kind_word}
use Rattle.ff_machine.specs.declared.kinds.Kind.{Kind}
use Rattle.ff_machine.specs.declared.kinds.Kind.TheVariants as kind
use Rattle.ff_saved_rows.specs.declared.kinds.RowKind.{RowKind}
use Rattle.ff_saved_rows.specs.declared.kinds.RowKind.TheVariants as of
use Rattle.ff_saved_rows.specs.declared.kinds.ListKind.{ListKind}
use Rattle.ff_saved_rows.specs.declared.kinds.ListKind.TheVariants as list
use Rattle.ff_saved_rows.specs.declared.kinds.TheConstants.{ROW_KINDS, LIST_KINDS}

-- the word of a kind of row, in bytes of ASCII
abbrev pub row_word : RowKind → List ℕ
row_word of.Head = codes "ffox-saved"
row_word of.Policy = codes "policy"
row_word of.Class = codes "class"
row_word of.Mass = codes "mass"
row_word of.Act = codes "act"
row_word of.Var = codes "var"
row_word of.Node = codes "node"
row_word of.On = codes "on"
row_word of.Kids = codes "kids"
row_word of.Page = codes "page"
row_word of.Ready = codes "ready"
row_word of.Wait = codes "wait"
row_word of.Win = codes "win"
row_word of.Open = codes "open"
row_word of.Cookie = codes "cookie"
row_word of.Ask = codes "ask"
row_word of.End = codes "end"

-- what a kind's word names is the kind
pub row_own : (k : RowKind) → with_word row_word ROW_KINDS (row_word k) ≡ Some k
row_own of.Head = refl
row_own of.Policy = refl
row_own of.Class = refl
row_own of.Mass = refl
row_own of.Act = refl
row_own of.Var = refl
row_own of.Node = refl
row_own of.On = refl
row_own of.Kids = refl
row_own of.Page = refl
row_own of.Ready = refl
row_own of.Wait = refl
row_own of.Win = refl
row_own of.Open = refl
row_own of.Cookie = refl
row_own of.Ask = refl
row_own of.End = refl

-- the same of the lists within rows
abbrev pub list_word : ListKind → List ℕ
list_word list.Win = codes "win"
list_word list.Node = codes "node"
list_word list.Code = codes "code"
list_word list.Slot = codes "slot"
list_word list.Call = codes "call"

pub list_own : (k : ListKind) → with_word list_word LIST_KINDS (list_word k) ≡ Some k
list_own list.Win = refl
list_own list.Node = refl
list_own list.Code = refl
list_own list.Slot = refl
list_own list.Call = refl

-- all kinds of nodes, of which each is there
abbrev pub node_kinds : List Kind
node_kinds = kind.Page ∷ kind.Text ∷ kind.Link ∷ kind.TextBox ∷ kind.Button ∷ kind.Script ∷ kind.Src ∷ kind.Div ∷ []

pub node_own : (k : Kind) → with_word kind_word node_kinds (kind_word k) ≡ Some k
node_own kind.Page = refl
node_own kind.Text = refl
node_own kind.Link = refl
node_own kind.TextBox = refl
node_own kind.Button = refl
node_own kind.Script = refl
node_own kind.Src = refl
node_own kind.Div = refl
