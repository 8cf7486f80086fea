-- Cells with another node at a number.
use Rattle.std.proofs.Common.{◌≡◌, ℕ, zero, suc, ◌<◌, ◌==◌, nat_lt, true, cond, not, Some, None, List, [], ◌∷◌, length, get_or, set, slice_get, arith, refl, sym, subst, ap, ◌∙◌, length-set}
use Rattle.std.specs.Int.{bit_at}
use Rattle.std.proofs.lemmas.Bool.Decides.{nat_tests}
use Rattle.std.proofs.lemmas.Option.{slice_get-get_or}
use Rattle.std.proofs.lemmas.List.{length-map}
use Rattle.ff_value.specs.declared.fault.Fault.TheVariants as fault
use Rattle.ff_value.specs.declared.value.Code.{Code}
use Rattle.ff_machine.specs.Faults.{limit_unless}
use Rattle.ff_value.specs.declared.ids.NodeId.{NodeId}
use Rattle.ff_machine.specs.declared.kinds.Kind.{Kind}
use Rattle.ff_machine.specs.Shapes.{kind_of, name_of, may_have_handlers}
use Rattle.ff_machine.specs.Nodes.{Node, node_at, children, parent, set_node, handler_fault}
use Rattle.ff_machine.specs.Alone.{IsNode, AreNodes}
use Rattle.ff_machine.proofs.Lists.{at_set}
use Rattle.ff_machine.proofs.Changes.{links_set, node_set}
use Rattle.ff_machine.proofs.Empty.{empty_valid}
use Rattle.ff_nodes.specs.declared.cell.NodeCell.{NodeCell}
use Rattle.ff_nodes.specs.declared.marks.Marks.{Marks}
use Rattle.ff_nodes.specs.Marked.{kind_bit, IsOwn, AreWithin}
use Rattle.ff_nodes.specs.Cells.{nodes_of, cell_at, no_cell, AreCells}
use Rattle.ff_nodes.proofs.Lacking.{own, node_of_cell}

-- no cells
pub no_cells : AreCells []
no_cells = record { nodes = empty_valid.nodes; marks = record { own = λ n lives. absurd (omega (arith, lives)); within = λ n p e. cc } }

-- the nodes of cells of which one is another
pub nodes_set : (cells : List NodeCell) (i : ℕ) (c : NodeCell) → nodes_of (set cells i c) ≡ set (nodes_of cells) i c.node
nodes_set [] i c = refl
nodes_set (x ∷ cells) zero c = refl
nodes_set (x ∷ cells) (suc i) c = ap (λ ns. x.node ∷ ns) (nodes_set cells i c)

module _ (cells : List NodeCell) (are : AreCells cells) (n : NodeId) (node : Node) (lives : n.0 < length (nodes_of cells)) (is : IsNode node)
    (kids : node.children ≡ children (nodes_of cells) n) (up : node.parent ≡ parent (nodes_of cells) n)
    (kind : kind_of node.shape ≡ kind_of (node_at (nodes_of cells) n).shape) (name : name_of node.shape ≡ name_of (node_at (nodes_of cells) n).shape) where
  -- the cell of the other node, with the old marks
  abbrev pub other : NodeCell
  other = record { node = node; marks = (cell_at cells n).marks }

  abbrev new : List NodeCell
  new = set cells n.0 other

  marks_same : (m : NodeId) → (cell_at new m).marks ≡ (cell_at cells m).marks
  marks_same m = at_set (λ i x. x.marks ≡ (get_or cells i no_cell).marks) cells n.0 m.0 other no_cell refl refl

  parent_same : (m : NodeId) → parent (nodes_of new) m ≡ parent (nodes_of cells) m
  parent_same m = ap (λ (ns : List Node). parent ns m) (nodes_set cells n.0 other) ∙ (links_set (nodes_of cells) n node kids up).same_parent m

  own_here : IsOwn node (cell_at cells n).marks
  own_here =
      let old = own cells are n lives in
      record {
        name = λ x e. old.name x (sym name ∙ e);
        kind = subst (λ (k : Kind). bit_at (cell_at cells n).marks.kinds (kind_bit k) ≡ 1) (sym kind) old.kind;
      }

  -- they are valid, where the other node has the same links, kind and name
  pub cell_set : AreCells new
  cell_set = record {
    nodes = subst AreNodes (sym (nodes_set cells n.0 other)) (node_set (nodes_of cells) n node are.nodes kids up is);
    marks = record {
      own = λ m there. at_set (λ i x. IsOwn x.node x.marks) cells n.0 m.0 other no_cell own_here (are.marks.own m (let size = length-set cells n.0 other in omega (arith, size, there)));
      within = λ m p e. subst (λ (a : Marks). AreWithin a (cell_at new p).marks) (sym (marks_same m)) (subst (λ (b : Marks). AreWithin (cell_at cells m).marks b) (sym (marks_same p)) (are.marks.within m p (sym (parent_same m) ∙ e)));
    };
  }

-- a node that is changed where it lies, of cells that are seen as these nodes
module _ (f : Node → Node) (cells cells' : List NodeCell) (all : List Node) (view : nodes_of cells ≡ all) (n : NodeId) (lives : n.0 < length all)
    (done : (cell : NodeCell) → slice_get cells n.0 ≡ Some cell → cells' ≡ set cells n.0 (record cell { node = f cell.node })) where
  there : n.0 < length cells
  there = let size = length-map cells (λ (c : NodeCell). c.node) in let same = ap length view in omega (arith, size, same, lives)

  is_new : cells' ≡ set cells n.0 (record { node = f (node_at all n); marks = (cell_at cells n).marks })
  is_new =
      done (cell_at cells n) (slice_get-get_or cells n.0 no_cell there)
      ∙ ap (λ (node : Node). let x : NodeCell = record { node = f node; marks = (cell_at cells n).marks } in set cells n.0 x) (sym (node_of_cell cells n) ∙ ap (λ (ns : List Node). node_at ns n) view)

  -- the cells are valid, where the node keeps its links, kind and name
  pub changed : AreCells cells → IsNode (f (node_at all n)) → (f (node_at all n)).children ≡ children all n → (f (node_at all n)).parent ≡ parent all n → kind_of (f (node_at all n)).shape ≡ kind_of (node_at all n).shape → name_of (f (node_at all n)).shape ≡ name_of (node_at all n).shape → AreCells cells'
  changed are is kids up kind name =
      subst AreCells (sym is_new) (cell_set cells are n (f (node_at all n))
      (subst (λ (ns : List Node). n.0 < length ns) (sym view) lives) is
      (subst (λ (ns : List Node). (f (node_at all n)).children ≡ children ns n) (sym view) kids)
      (subst (λ (ns : List Node). (f (node_at all n)).parent ≡ parent ns n) (sym view) up)
      (subst (λ (ns : List Node). kind_of (f (node_at all n)).shape ≡ kind_of (node_at ns n).shape) (sym view) kind)
      (subst (λ (ns : List Node). name_of (f (node_at all n)).shape ≡ name_of (node_at ns n).shape) (sym view) name))

  -- and the nodes are the old ones but for that one
  pub changed_nodes : nodes_of cells' ≡ set_node all n (f (node_at all n))
  changed_nodes =
      ap nodes_of is_new ∙ nodes_set cells n.0 (record { node = f (node_at all n); marks = (cell_at cells n).marks }) ∙ ap (λ (ns : List Node). set_node ns n (f (node_at all n))) view

-- no fault forbids a handler
pub no_handler_fault : (all : List Node) (n : NodeId) (code : Code) → may_have_handlers (node_at all n).shape ≡ true → length code.params ≡ 1 → length (node_at all n).handlers < 16 → handler_fault all n code ≡ None
no_handler_fault all n code may one few =
    let is_one : (length code.params == 1) ≡ true = grind (arith, nat_tests, one) in
    let is_few : nat_lt (length (node_at all n).handlers) 16 ≡ true = grind (arith, nat_tests, few) in
    ap (λ b. cond (not b) (Some fault.Kind) (cond (not (length code.params == 1)) (Some fault.Kind) (limit_unless (nat_lt (length (node_at all n).handlers) 16)))) may
    ∙ ap (λ b. cond (not b) (Some fault.Kind) (limit_unless (nat_lt (length (node_at all n).handlers) 16))) is_one
    ∙ ap limit_unless is_few
