-- How documents become nodes.
use Rattle.std.specs.Prelude.{ℕ, suc, ◌+◌, false, Option, Some, None, List, [], ◌∷◌, ◌++◌, map, length}
use Rattle.ff_tree.specs.declared.tree.Doc.{Doc}
use Rattle.ff_tree.specs.declared.tree.Expr.{Expr}
use Rattle.ff_tree.specs.declared.tree.Handler.{Handler, out-Handler}
use Rattle.ff_tree.specs.declared.tree.Doc.TheOpen.{Doc-F}
use Rattle.ff_tree.specs.declared.tree.Doc.TheFolds.{para-Doc}
use Rattle.ff_value.specs.declared.ids.ActId.{ActId}
use Rattle.ff_value.specs.declared.ids.NodeId.{NodeId}
use Rattle.ff_value.specs.declared.ids.PageId.{PageId}
use Rattle.ff_value.specs.declared.value.Code.{Code}
use Rattle.ff_machine.specs.declared.records.Shape.{Shape}
use Rattle.ff_machine.specs.declared.records.Shape.TheVariants as shape
use Rattle.ff_machine.specs.Nodes.{Node}

-- a document as nodes in preorder: how many, and which they are where the first gets a number and
-- stands under a parent
pub record Laid : Type 0 where
  pub size : ℕ
  pub nodes : ℕ → Option NodeId → List Node

-- how many nodes the documents are together
abbrev pub size_of : List Laid → ℕ
size_of [] = 0
size_of (d ∷ ds) = d.size + size_of ds

-- the numbers of the topmost nodes of documents that stand one after another, the first at `first`
abbrev pub numbers : List Laid → ℕ → List NodeId
numbers [] first = []
numbers (d ∷ ds) first = record { 0 = first } ∷ numbers ds (first + d.size)

-- the nodes of documents that stand one after another
abbrev pub lay_all : List Laid → ℕ → Option NodeId → List Node
lay_all [] first under = []
lay_all (d ∷ ds) first under = d.nodes first under ++ lay_all ds (first + d.size) under

-- a node without children
abbrev pub lay_leaf : Shape → List Code → Laid
lay_leaf s handlers = record { size = 1; nodes = λ first under. record { shape = s; handlers = handlers; children = []; parent = under } ∷ [] }

-- a node, and below it the documents
abbrev pub lay_over : Shape → List Laid → Laid
lay_over s ds = record {
  size = suc (size_of ds);
  nodes = λ first under. record { shape = s; handlers = []; children = numbers ds (suc first); parent = under } ∷ lay_all ds (suc first) (Some (record { 0 = first }));
}

-- a handler as a function made in an activation
abbrev pub handler_code : ActId → Handler → Code
handler_code env h = record { params = (out-Handler h).param ∷ []; body = (out-Handler h).body; env = env }

-- a document whose parts stand beside what they are laid as
abbrev pub lay_doc : ActId → Doc-F (Doc × Laid) (Expr × Unit {0}) (Handler × Unit {0}) → Laid
lay_doc env (Doc-F.Text x text) = lay_leaf (shape.Text x text) []
lay_doc env (Doc-F.Link x url label) = lay_leaf (shape.Link x url label) []
lay_doc env (Doc-F.TextBox x text handlers) = lay_leaf (shape.TextBox x text) (map (λ h. handler_code env h.0) handlers)
lay_doc env (Doc-F.Button x label handlers) = lay_leaf (shape.Button x label) (map (λ h. handler_code env h.0) handlers)
lay_doc env (Doc-F.Script x e) = lay_leaf (shape.Script x false e.0) []
lay_doc env (Doc-F.Src x url) = lay_leaf (shape.Src x false url) []
lay_doc env (Doc-F.Div x docs) = lay_over (shape.Div x) (map (λ d. d.1) docs)

-- a document as nodes, its handlers made in an activation
abbrev pub laid : ActId → Doc → Laid
laid env = para-Doc Laid (Unit {0}) (Unit {0}) (lay_doc env) (λ _. tt) (λ _. tt)

-- a page and its documents as nodes
abbrev pub laid_page : PageId → ActId → List Doc → Laid
laid_page page env docs = lay_over (shape.Page page) (map (laid env) docs)

-- the nodes with a tree more, which has no parent
abbrev pub with_tree : List Node → Laid → List Node
with_tree nodes tree = nodes ++ tree.nodes (length nodes) None
