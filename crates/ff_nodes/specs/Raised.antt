-- Marks that are being raised.
use Rattle.std.specs.Prelude.{◌≡◌, ◌≢◌, ◌<◌, ◌≤◌, ◌⊎◌, ℕ, Some, List, length}
use Rattle.ff_value.specs.declared.ids.NodeId.{NodeId}
use Rattle.ff_machine.specs.Nodes.{Node, parent}
use Rattle.ff_nodes.specs.declared.cell.NodeCell.{NodeCell}
use Rattle.ff_nodes.specs.declared.marks.Marks.{Marks}
use Rattle.ff_nodes.specs.Cells.{cell_at, nodes_of}
use Rattle.ff_nodes.specs.Marked.{IsOwn, AreWithin}

-- a node has further marks, and nothing else is changed
pub record IsRaised (old new : List NodeCell) (n : NodeId) (marks : Marks) : Type 0 where
  pub nodes : nodes_of new ≡ nodes_of old
  pub others : (m : NodeId) → m.0 ≢ n.0 → cell_at new m ≡ cell_at old m
  pub more : AreWithin (cell_at old n).marks (cell_at new n).marks
  pub has : AreWithin marks (cell_at new n).marks

-- each cell's own bits are set in its marks, and the marks of those that the test picks are within
-- their parent's
pub record AreMarkedWhere (Picks : NodeId → Type 0) (cells : List NodeCell) : Type 0 where
  pub own : (n : NodeId) → n.0 < length cells → IsOwn (cell_at cells n).node (cell_at cells n).marks
  pub within : (n p : NodeId) → Picks n → parent (nodes_of cells) n ≡ Some p → AreWithin (cell_at cells n).marks (cell_at cells p).marks

-- the same of all but one
abbrev pub AreMarkedBut : NodeId → List NodeCell → Type 0
AreMarkedBut n cells = AreMarkedWhere (λ m. m.0 ≢ n.0) cells

-- the same of those before a number and of those from another one on
abbrev pub AreMarkedUpTo : ℕ → ℕ → List NodeCell → Type 0
AreMarkedUpTo first next cells = AreMarkedWhere (λ m. (m.0 < first) ⊎ (next ≤ m.0)) cells

-- the parent of each node from a number on has a smaller number, and is from there on too
abbrev pub ArePast : ℕ → List Node → Type 0
ArePast first nodes = (n p : NodeId) → first ≤ n.0 → parent nodes n ≡ Some p → (first ≤ p.0) × (p.0 < n.0)
