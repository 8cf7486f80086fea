-- Cells of a tree that is put under another.
use Rattle.std.proofs.Common.{◌≡◌, ◌≢◌, ℕ, ◌<◌, ◌≤◌, ◌⊎◌, inl, inr, Some, None, pos, List, length, set, arith, sym, subst, ap, ◌∙◌}
use Rattle.std.specs.List.{insert}
use Rattle.std.specs.Int.{bit_at}
use Rattle.std.proofs.lemmas.List.{length-map, length-set, map-set, get_or-set_same, get_or-set_other}
use Rattle.ff_value.specs.declared.ids.NodeId.{NodeId}
use Rattle.ff_machine.specs.declared.limits.TheConstants.{MOST_TREE_DEPTH}
use Rattle.ff_machine.specs.Shapes.{kind_of, name_of}
use Rattle.ff_machine.specs.Nodes.{Node, no_node, node_at, children, parent, depth, joined, insert_fault}
use Rattle.ff_machine.specs.Alone.{AreNodes}
use Rattle.ff_machine.proofs.Joining.{may_join, joined_nodes}
use Rattle.ff_nodes.specs.declared.cell.NodeCell.{NodeCell}
use Rattle.ff_nodes.specs.Cells.{AreCells, AreMarked, cell_at, no_cell, nodes_of}
use Rattle.ff_nodes.specs.Marked.{kind_bit, IsOwn, AreWithin}
use Rattle.ff_nodes.specs.Raised.{AreMarkedBut}
use Rattle.ff_nodes.proofs.Lacking.{node_of_cell, count_cells}
use Rattle.ff_nodes.proofs.RaisedCells.{same_or_other}

-- cells of which one has another node, with the old marks
abbrev pub with_node : List NodeCell → NodeId → Node → List NodeCell
with_node cells n node = set cells n.0 (record { node = node; marks = (cell_at cells n).marks })

module _ (cells : List NodeCell) (n : NodeId) (node : Node) (there : n.0 < length cells) where
  abbrev cell : NodeCell
  cell = record { node = node; marks = (cell_at cells n).marks }

  nodes_with : nodes_of (with_node cells n node) ≡ set (nodes_of cells) n.0 node
  nodes_with = map-set (λ (c : NodeCell). c.node) cells n.0 cell

  length_with : length (with_node cells n node) ≡ length cells
  length_with = length-set cells n.0 cell

  marks_with : (m : NodeId) → (cell_at (with_node cells n node) m).marks ≡ (cell_at cells m).marks
  marks_with m = by (same_or_other m n) where
    by : (m ≡ n) ⊎ (m.0 ≢ n.0) → (cell_at (with_node cells n node) m).marks ≡ (cell_at cells m).marks
    by (inl e) = subst (λ k. (cell_at (with_node cells n node) k).marks ≡ (cell_at cells k).marks) (sym e) (ap (λ (c : NodeCell). c.marks) (get_or-set_same cells n.0 cell no_cell there))
    by (inr other) = ap (λ (c : NodeCell). c.marks) (get_or-set_other cells n.0 m.0 cell no_cell other)

  -- where the shape is that of the node before, each node's own bits are set still
  own_with : node.shape ≡ (cell_at cells n).node.shape → ((m : NodeId) → m.0 < length cells → IsOwn (cell_at cells m).node (cell_at cells m).marks) → (m : NodeId) → m.0 < length cells → IsOwn (cell_at (with_node cells n node) m).node (cell_at (with_node cells n node) m).marks
  own_with same own m less = by (same_or_other m n) where
    by : (m ≡ n) ⊎ (m.0 ≢ n.0) → IsOwn (cell_at (with_node cells n node) m).node (cell_at (with_node cells n node) m).marks
    by (inl e) =
        let before = own n there in
        let here : IsOwn node (cell_at cells n).marks = record {
          name = λ x is. before.name x (ap name_of (sym same) ∙ is);
          kind = subst (λ s. bit_at (cell_at cells n).marks.kinds (kind_bit (kind_of s)) ≡ 1) (sym same) before.kind;
        } in
        subst (λ k. IsOwn (cell_at (with_node cells n node) k).node (cell_at (with_node cells n node) k).marks) (sym e)
        (subst (λ (c : NodeCell). IsOwn c.node c.marks) (sym (get_or-set_same cells n.0 cell no_cell there)) here)
    by (inr other) = subst (λ (c : NodeCell). IsOwn c.node c.marks) (sym (get_or-set_other cells n.0 m.0 cell no_cell other)) (own m less)

-- the child under its parent
abbrev pub under_of : List Node → NodeId → NodeId → Node
under_of nodes p c = record (node_at nodes c) { parent = Some p }

-- the parent over its child
abbrev pub over_of : List Node → NodeId → NodeId → ℕ → Node
over_of nodes p c at = record (node_at nodes p) { children = insert (children nodes p) at c }

module _ (cells : List NodeCell) (p c : NodeId) (at : ℕ) (p_there : p.0 < length cells) (c_there : c.0 < length cells) where
  abbrev old : List Node
  old = nodes_of cells

  abbrev under : Node
  under = under_of old p c

  abbrev over : Node
  over = over_of old p c at

  abbrev first : List NodeCell
  first = with_node cells c under

  abbrev both : List NodeCell
  both = with_node first p over

  length_first : length first ≡ length cells
  length_first = length_with cells c under c_there

  p_first : p.0 < length first
  p_first = let e = length_first in omega (arith, e, p_there)

  length_both : length both ≡ length cells
  length_both = length_with first p over p_first ∙ length_first

  -- the nodes are those of the joined trees
  joined_cells : nodes_of both ≡ joined old p c at
  unfolding joined
  joined_cells = nodes_with first p over p_first ∙ ap (λ ns. set ns p.0 over) (nodes_with cells c under c_there)

  shape_first : over.shape ≡ (cell_at first p).node.shape
  shape_first = by (same_or_other p c) where
    by : (p ≡ c) ⊎ (p.0 ≢ c.0) → over.shape ≡ (cell_at first p).node.shape
    by (inl e) =
        let here : (cell_at first p).node ≡ under = ap (λ k. (cell_at first k).node) e ∙ ap (λ (x : NodeCell). x.node) (get_or-set_same cells c.0 (record { node = under; marks = (cell_at cells c).marks }) no_cell c_there) in
        ap (λ k. (node_at old k).shape) e ∙ ap (λ (n : Node). n.shape) (sym here)
    by (inr other) =
        ap (λ (n : Node). n.shape) (node_of_cell cells p)
        ∙ ap (λ (x : NodeCell). x.node.shape) (sym (get_or-set_other cells c.0 p.0 (record { node = under; marks = (cell_at cells c).marks }) no_cell other))

  parent_stays : (m : NodeId) → m.0 ≢ c.0 → parent (joined old p c at) m ≡ parent old m
  unfolding joined
  parent_stays m other = by (same_or_other m p) where
    count : length (set old c.0 under) ≡ length cells
    count = length-set old c.0 under ∙ length-map cells (λ (x : NodeCell). x.node)

    by : (m ≡ p) ⊎ (m.0 ≢ p.0) → parent (set (set old c.0 under) p.0 over) m ≡ parent old m
    by (inl e) = subst (λ k. parent (set (set old c.0 under) p.0 over) k ≡ parent old k) (sym e) (ap (λ (n : Node). n.parent) (get_or-set_same (set old c.0 under) p.0 over no_node (let k = count in omega (arith, k, p_there))))
    by (inr no_p) = ap (λ (n : Node). n.parent) (get_or-set_other (set old c.0 under) p.0 m.0 over no_node no_p ∙ get_or-set_other old c.0 m.0 under no_node other)

  marks_both : (m : NodeId) → (cell_at both m).marks ≡ (cell_at cells m).marks
  marks_both m = marks_with first p over p_first m ∙ marks_with cells c under c_there m

  own_first : AreMarked cells → (m : NodeId) → m.0 < length first → IsOwn (cell_at first m).node (cell_at first m).marks
  own_first are m less = own_with cells c under c_there (ap (λ (n : Node). n.shape) (node_of_cell cells c)) are.own m (let f = length_first in omega (arith, f, less))

  -- all are marked but the child, whose marks are still to be raised
  joined_marked : AreMarked cells → AreMarkedBut c both
  joined_marked are = record {
    own = λ m less. own_with first p over p_first shape_first (own_first are) m (let e = length_with first p over p_first in omega (arith, e, less));
    within = λ m q other is.
        let before : parent old m ≡ Some q = sym (parent_stays m other) ∙ ap (λ ns. parent ns m) (sym joined_cells) ∙ is in
        subst (λ k. AreWithin k (cell_at both q).marks) (sym (marks_both m)) (subst (AreWithin (cell_at cells m).marks) (sym (marks_both q)) (are.within m q before));
  }

-- Cells of joined trees, of which the child's marks are still to be raised.
pub record AreJoined (cells : List NodeCell) (nodes : List Node) (c : NodeId) : Type 0 where
  pub nodes_are : nodes_of cells ≡ nodes
  pub valid : AreNodes (nodes_of cells)
  pub marks : AreMarkedBut c cells
  pub lives : c.0 < length cells
  pub shallow : depth (nodes_of cells) c ≤ MOST_TREE_DEPTH

module _ (cells : List NodeCell) (are : AreCells cells) (p c : NodeId) (at : ℕ) (p_there : p.0 < length (nodes_of cells)) (c_there : c.0 < length (nodes_of cells)) (none : insert_fault (nodes_of cells) p c (pos at) ≡ None) where
  both_there : (n : NodeId) → n.0 < length (nodes_of cells) → n.0 < length cells
  both_there n less = let e = count_cells cells in omega (arith, e, less)

  abbrev all : List NodeCell
  all = both cells p c at (both_there p p_there) (both_there c c_there)

  valid_both : AreNodes (nodes_of all)
  valid_both =
      subst AreNodes (sym (joined_cells cells p c at (both_there p p_there) (both_there c c_there)))
      (joined_nodes (nodes_of cells) are.nodes.trees p c at p_there c_there (may_join (nodes_of cells) p c (pos at) none) are.nodes)

  joined_both : AreJoined all (joined (nodes_of cells) p c at) c
  joined_both =
      let valid = valid_both in
      let e = length_both cells p c at (both_there p p_there) (both_there c c_there) in
      let there = both_there c c_there in
      record {
        nodes_are = joined_cells cells p c at (both_there p p_there) (both_there c c_there);
        valid = valid;
        marks = joined_marked cells p c at (both_there p p_there) (both_there c c_there) are.marks;
        lives = omega (arith, e, there);
        shallow = valid.trees.ends c;
      }

-- so are those that are written, the child first
pub both_written : (cells start one two : List NodeCell) (nodes : List Node) (p c : NodeId) (at : ℕ) (under over : Node) → AreCells cells → nodes_of cells ≡ nodes → start ≡ cells
    → p.0 < length nodes → c.0 < length nodes → insert_fault nodes p c (pos at) ≡ None
    → under ≡ under_of nodes p c → over ≡ over_of nodes p c at → one ≡ with_node start c under → two ≡ with_node one p over → AreJoined two (joined nodes p c at) c
both_written cells start one two nodes p c at under over are view same p_there c_there none is_under is_over is_one is_two =
    let there : (n : NodeId) → n.0 < length nodes → n.0 < length (nodes_of cells) = λ n less. subst (λ (ns : List Node). n.0 < length ns) (sym view) less in
    let joined_now = joined_both cells are p c at (there p p_there) (there c c_there) (subst (λ (ns : List Node). insert_fault ns p c (pos at) ≡ None) (sym view) none) in
    let under_now : under ≡ under_of (nodes_of cells) p c = is_under ∙ ap (λ (ns : List Node). under_of ns p c) (sym view) in
    let over_now : over ≡ over_of (nodes_of cells) p c at = is_over ∙ ap (λ (ns : List Node). over_of ns p c at) (sym view) in
    let first_now : one ≡ with_node cells c (under_of (nodes_of cells) p c) = is_one ∙ ap (λ (l : List NodeCell). with_node l c under) same ∙ ap (with_node cells c) under_now in
    let two_now : two ≡ with_node (with_node cells c (under_of (nodes_of cells) p c)) p (over_of (nodes_of cells) p c at) = is_two ∙ ap (λ (l : List NodeCell). with_node l p over) first_now ∙ ap (with_node (with_node cells c (under_of (nodes_of cells) p c)) p) over_now in
    subst (λ (l : List NodeCell). AreJoined l (joined nodes p c at) c) (sym two_now) (subst (λ (ns : List Node). AreJoined (with_node (with_node cells c (under_of (nodes_of cells) p c)) p (over_of (nodes_of cells) p c at)) (joined ns p c at) c) view joined_now)

-- a node that lives has a cell in an equal list
pub lives_in : (cells start : List NodeCell) (nodes : List Node) (n : NodeId) → nodes_of cells ≡ nodes → start ≡ cells → n.0 < length nodes → n.0 < length start
lives_in cells start nodes n view same less =
    let count = count_cells cells in
    let of_nodes : length (nodes_of cells) ≡ length nodes = ap length view in
    let of_start : length start ≡ length cells = ap length same in
    omega (arith, count, of_nodes, of_start, less)

-- and after another node was written
pub lives_with : (start one : List NodeCell) (c n : NodeId) (under : Node) → one ≡ with_node start c under → n.0 < length start → n.0 < length one
lives_with start one c n under is less =
    let same : length one ≡ length start = ap length is ∙ length-set start c.0 (record { node = under; marks = (cell_at start c).marks }) in
    omega (arith, same, less)

-- once the child's marks were raised, the cells are valid
pub joined_are : (two done : List NodeCell) (nodes : List Node) (c : NodeId) → AreJoined two nodes c → nodes_of done ≡ nodes_of two → AreMarked done → AreCells done
joined_are two done nodes c joins same marked = record { nodes = subst AreNodes (sym same) joins.valid; marks = marked }
