-- Nodes of records: which parents their lists of children give, and the nodes under these parents.
use Rattle.std.specs.Prelude.{◌≡◌, ◌≢◌, ℕ, ◌<◌, ◌≤◌, ◌==◌, Option, None, Some, List, [], ◌∷◌, All, count_by, length, map, slice_index_or}
use Rattle.ff_value.specs.declared.ids.NodeId.{NodeId}
use Rattle.ff_machine.specs.Shapes.{page_of}
use Rattle.ff_machine.specs.declared.limits.TheConstants.{MOST_TREE_DEPTH}
use Rattle.ff_machine.specs.Nodes.{Node, no_node, depth}
use Rattle.ff_machine.specs.Alone.{AreNodes}
use Rattle.ff_records.specs.Records.{node_rec, node_recs}
use Rattle.ff_records.specs.declared.records.NodeRec.{NodeRec}
use Rattle.ff_nodes.specs.declared.cell.NodeCell.{NodeCell}
use Rattle.ff_nodes.specs.Raised.{AreMarkedWhere}

-- the node of a record under a parent, or under none
abbrev pub node_of : NodeRec → Option NodeId → Node
node_of rec parent = record { shape = rec.shape; handlers = rec.on; children = rec.kids; parent = parent }

-- the nodes of records under these parents
abbrev pub made : List NodeRec → List (Option NodeId) → List Node
made [] parents = []
made (rec ∷ recs) [] = []
made (rec ∷ recs) (parent ∷ parents) = node_of rec parent ∷ made recs parents

-- nodes of which nothing is known but their parents
abbrev pub bare : List (Option NodeId) → List Node
bare parents = map (λ parent. record no_node { parent = parent }) parents

-- the record of a number
abbrev pub rec_at : List NodeRec → NodeId → NodeRec
rec_at recs n = slice_index_or recs n.0 (node_rec no_node)

-- the children that the record of a number lists
abbrev pub kids : List NodeRec → NodeId → List NodeId
kids recs n = (rec_at recs n).kids

-- the parent that is kept of a number
abbrev pub parent_at : List (Option NodeId) → ℕ → Option NodeId
parent_at parents k = slice_index_or parents k None

-- a child that a record lists is a node that may be one, and has that parent
pub record IsChild (recs : List NodeRec) (parents : List (Option NodeId)) (p c : NodeId) : Type 0 where
  pub there : c.0 < length recs
  pub no_page : page_of (rec_at recs c).shape ≡ None
  pub is : parent_at parents c.0 ≡ Some p

-- the parents that the lists before a number give: each child has its own, and stands once in its
-- list
pub record AreParents (recs : List NodeRec) (lists : ℕ) (parents : List (Option NodeId)) : Type 0 where
  pub count : length parents ≡ length recs
  pub sound : (k : ℕ) (p : NodeId) → parent_at parents k ≡ Some p → (p.0 < lists) × (count_by (λ c. c.0 == k) (kids recs p) ≡ 1)
  pub kept : (p : NodeId) → p.0 < lists → All (IsChild recs parents p) (kids recs p)

-- how deep each of so many nodes stands
pub record HaveDepths (parents : List (Option NodeId)) (many : ℕ) (depths : List ℕ) : Type 0 where
  pub count : length depths ≡ many
  pub each : (n : NodeId) → n.0 < many → slice_index_or depths n.0 0 ≡ depth (bare parents) n
  pub few : (n : NodeId) → n.0 < many → depth (bare parents) n ≤ MOST_TREE_DEPTH

-- the depths of nodes
pub record AreDepths (nodes : List Node) (depths : List ℕ) : Type 0 where
  pub count : length depths ≡ length nodes
  pub each : (n : NodeId) → n.0 < length nodes → slice_index_or depths n.0 0 ≡ depth nodes n

-- the marks of the nodes that are deeper are within those of their parents
abbrev pub AreMarkedBelow : List Node → ℕ → List NodeCell → Type 0
AreMarkedBelow nodes deep cells = AreMarkedWhere (λ m. deep < depth nodes m) cells

-- and those of the nodes that are as deep
abbrev pub AreMarkedFrom : List Node → ℕ → List NodeCell → Type 0
AreMarkedFrom nodes deep cells = AreMarkedWhere (λ m. deep ≤ depth nodes m) cells

-- no valid nodes have these records
abbrev pub NoNodes : List NodeRec → Type 0
NoNodes recs = (v : List Node) → AreNodes v → node_recs v ≢ recs
