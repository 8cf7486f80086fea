-- A child that is put under a node, before its scripts start.
use Rattle.std.proofs.Common.{◌≡◌, ℕ, ◌<◌, ℤ, None, Some, List, length, length-set, ◌∙◌}
use Rattle.ff_value.specs.declared.ids.NodeId.{NodeId}
use Rattle.ff_machine.specs.Nodes.{Node, node_at, set_node, insert_fault, joined}
use Rattle.ff_machine.specs.Stores as stores
use Rattle.ff_machine.specs.Stores.{Stores}
use Rattle.ff_machine.specs.Valid.{IsStores}
use Rattle.ff_machine.proofs.Joining.{may_join, joined_nodes}
use Rattle.ff_laws.specs.Keeps.{Keeps}
use Rattle.ff_laws.proofs.Inserting.{joined_valid}
use Rattle.ff_laws.proofs.Simple.{touched_changed, touched_at_refers}
use Rattle.ff_laws.proofs.Starting.{kept_twice}

-- it keeps stores valid
pub join_valid : (s : Stores) (p c : NodeId) (at : ℤ) (place : ℕ) → IsStores s → p.0 < length s.nodes → c.0 < length s.nodes → insert_fault s.nodes p c at ≡ None
    → Keeps s (record s { nodes = joined s.nodes p c place; touched = stores.touched_at s p })
unfolding joined
join_valid s p c at place valid p_lives c_lives none =
    let are = joined_nodes s.nodes valid.nodes.trees p c place p_lives c_lives (may_join s.nodes p c at none) valid.nodes in
    let u : Stores = record s { nodes = joined s.nodes p c place } in
    let first = joined_valid s p c place valid p_lives c_lives are in
    let touched = touched_changed u (stores.touched_at s p) first.stores (touched_at_refers s p valid) in
    kept_twice s u (record u { touched = stores.touched_at s p }) first touched

-- and makes no node
pub joined_length : (all : List Node) (p c : NodeId) (at : ℕ) → length (joined all p c at) ≡ length all
unfolding joined
joined_length all p c at = length-set (set_node all c (record (node_at all c) { parent = Some p })) p.0 _ ∙ length-set all c.0 _
