-- New cells behind the ones that there are, and the topmost node of a document.
use Rattle.std.specs.Prelude.{◌≡◌, false, List, [], ◌++◌, map}
use Rattle.std.specs.List.{AllByRecursion}
use Rattle.ff_tree.specs.declared.tree.Doc.{Doc}
use Rattle.ff_tree.specs.declared.tree.Doc.TheOpen.{Doc-F}
use Rattle.ff_tree.specs.declared.tree.Expr.{Expr}
use Rattle.ff_tree.specs.declared.tree.Handler.{Handler}
use Rattle.ff_value.specs.declared.ids.ActId.{ActId}
use Rattle.ff_value.specs.declared.value.Code.{Code}
use Rattle.ff_machine.specs.declared.records.Shape.{Shape}
use Rattle.ff_machine.specs.declared.records.Shape.TheVariants as shape
use Rattle.ff_machine.specs.Documents.{handler_code}
use Rattle.ff_machine.specs.Nodes.{Node}
use Rattle.ff_nodes.specs.declared.cell.NodeCell.{NodeCell}
use Rattle.ff_nodes.specs.Cells.{nodes_of}
use Rattle.ff_nodes.specs.Marked.{IsOwn}

-- the bits of a cell's own node are set in its marks
abbrev pub HasOwn : NodeCell → Type 0
HasOwn cell = IsOwn cell.node cell.marks

-- the cells and behind them new ones, of these nodes, each with its own bits
pub record AreNew (old new : List NodeCell) (ns : List Node) : Type 0 where
  pub more : List NodeCell
  pub cells : new ≡ old ++ more
  pub nodes : nodes_of more ≡ ns
  pub own : AllByRecursion HasOwn more

-- the shape of a document's topmost node
abbrev pub top_shape : Doc-F Doc Expr Handler → Shape
top_shape (Doc-F.Text x text) = shape.Text x text
top_shape (Doc-F.Link x url label) = shape.Link x url label
top_shape (Doc-F.TextBox x text handlers) = shape.TextBox x text
top_shape (Doc-F.Button x label handlers) = shape.Button x label
top_shape (Doc-F.Script x e) = shape.Script x false e
top_shape (Doc-F.Src x url) = shape.Src x false url
top_shape (Doc-F.Div x docs) = shape.Div x

-- its handlers, made in an activation
abbrev pub top_handlers : ActId → Doc-F Doc Expr Handler → List Code
top_handlers env (Doc-F.Text x text) = []
top_handlers env (Doc-F.Link x url label) = []
top_handlers env (Doc-F.TextBox x text handlers) = map (handler_code env) handlers
top_handlers env (Doc-F.Button x label handlers) = map (handler_code env) handlers
top_handlers env (Doc-F.Script x e) = []
top_handlers env (Doc-F.Src x url) = []
top_handlers env (Doc-F.Div x docs) = []
