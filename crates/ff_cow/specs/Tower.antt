-- The cells of a node, from the left, and when a node is one that a list may hold.
use Rattle.std.specs.Prelude.{ℕ, ◌≤◌, List, map, length}
use Rattle.std.specs.Rc.{rc_value}
use Rattle.ff_cow.specs.Nodes.{cells_of, AreNodes}
use Rattle.ff_cow.specs.declared.leaf.Leaf.{Leaf}
use Rattle.ff_cow.specs.declared.branch.Branch.{Branch}
use Rattle.ff_cow.specs.declared.root.Root.{Root}
use Rattle.ff_cow.specs.declared.root.Root.TheVariants.{Low, High}

abbrev pub leaf_cells : {V : Type 0} → Leaf V → List V
leaf_cells leaf = leaf.cells.items

-- a leaf has at most sixteen cells
abbrev pub IsLeaf : {V : Type 0} → Leaf V → Type 0
IsLeaf leaf = length leaf.cells.items ≤ 16

abbrev pub branch_cells : {T V : Type 0} → (T → List V) → Branch T → List V
branch_cells cells branch = cells_of cells (map rc_value branch.kids.items)

-- `room` is how many cells a full node below the branch has
abbrev pub IsBranch : {T V : Type 0} → ℕ → (T → List V) → (T → Type 0) → Branch T → Type 0
IsBranch room cells is_valid branch = AreNodes room cells is_valid (map rc_value branch.kids.items)

-- the tree of a long list: four branches above each leaf
abbrev pub Tower : Type 0 → Type 0
Tower V = Branch (Branch (Branch (Branch (Leaf V))))

abbrev pub tower_cells : {V : Type 0} → Tower V → List V
tower_cells = branch_cells (branch_cells (branch_cells (branch_cells leaf_cells)))

-- such a tree, as a list may hold it: the numbers are the cells of a full node at each height
abbrev pub IsTower : {V : Type 0} → Tower V → Type 0
IsTower =
    IsBranch 65536 (branch_cells (branch_cells (branch_cells leaf_cells)))
    (IsBranch 4096 (branch_cells (branch_cells leaf_cells)) (IsBranch 256 (branch_cells leaf_cells) (IsBranch 16 leaf_cells IsLeaf)))

-- the cells of a root
abbrev pub root_cells : {V : Type 0} → Root V → List V
root_cells (Low node) = branch_cells leaf_cells node
root_cells (High node) = tower_cells node

-- how many cells a root has room for
abbrev pub root_room : {V : Type 0} → Root V → ℕ
root_room (Low node) = 256
root_room (High node) = 1048576

-- a root that a list may hold
abbrev pub IsRoot : {V : Type 0} → Root V → Type 0
IsRoot (Low node) = IsBranch 16 leaf_cells IsLeaf node
IsRoot (High node) = IsTower node
