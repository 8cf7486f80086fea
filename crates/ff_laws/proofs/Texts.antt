-- A text that a node gets within the mass, and a handler more, keep stores valid.
use Rattle.std.proofs.Common.{◌≡◌, ℕ, ◌<◌, true, Option, Some, None, List, [], ◌∷◌, ◌++◌, length, refl, arith, length-set}
use Rattle.std.proofs.lemmas.List.Elements.{All-push}
use Rattle.std.specs.Str.{IsUtf8}
use Rattle.ff_value.specs.declared.fault.Fault.{Fault}
use Rattle.ff_value.specs.declared.ids.NodeId.{NodeId}
use Rattle.ff_value.specs.declared.value.Code.{Code}
use Rattle.ff_machine.specs.Faults.{limit_unless, first_fault}
use Rattle.ff_machine.specs.Shapes.{with_text}
use Rattle.ff_machine.specs.Nodes as nodes
use Rattle.ff_machine.specs.Nodes.{no_node, node_at, handler_fault}
use Rattle.ff_machine.specs.Stores as stores
use Rattle.ff_machine.specs.Stores.{Stores, may_weigh}
use Rattle.ff_machine.specs.Alone.{IsNode}
use Rattle.ff_machine.proofs.Changes.{within, handler_node}
use Rattle.ff_machine.specs.References.{made, CodeRefers, NodeRefers}
use Rattle.ff_machine.specs.Valid.{IsCode, IsStores}
use Rattle.ff_laws.specs.Keeps.{Keeps}
use Rattle.ff_laws.proofs.Simple.{weighed_valid, touched_changed, touched_at_refers}
use Rattle.ff_laws.proofs.NodeChanges.{like_itself, node_changed, text_set_valid}

-- A text that a node gets, with its mass and its touched page.

no_first : (a b : Option Fault) → first_fault a b ≡ None → b ≡ None
no_first None b e = e
no_first (Some f) b e = cc

-- a node that gets a text within the mass keeps stores valid
pub with_text_valid : (s : Stores) (n : NodeId) (text : List ℕ) → IsStores s → n.0 < length s.nodes → IsUtf8 text → may_weigh s (length text) ≡ true → Keeps s (stores.with_text s n text)
with_text_valid s n text valid lives is_text may =
    let first = text_set_valid s n text valid lives is_text in
    let t : Stores = record s { nodes = nodes.text_set s.nodes n text } in
    let heavier = weighed_valid t (length text) first.stores may in
    let u : Stores = stores.weighed t (length text) in
    let size : length t.nodes ≡ length s.nodes = length-set s.nodes n.0 (record (node_at s.nodes n) { shape = with_text (node_at s.nodes n).shape text }) in
    let touched = touched_changed u (stores.touched_at s n) heavier.stores (touched_at_refers s n valid) in
    record { stores = touched.stores; grows = record { wins = omega arith; pages = omega arith; nodes = omega (arith, size); acts = omega arith } }

-- the mass allows a text that is set without a fault
pub text_may : (s : Stores) (n : NodeId) (text : List ℕ) → stores.set_text_fault s n text ≡ None → may_weigh s (length text) ≡ true
text_may s n text e = within _ (no_first (nodes.text_fault s.nodes n) (limit_unless (may_weigh s (length text))) e)

-- Handlers.

-- a node that gets a handler without a fault keeps stores valid
pub handler_added_valid : (s : Stores) (n : NodeId) (code : Code) → IsStores s → n.0 < length s.nodes → IsCode (made s) code → handler_fault s.nodes n code ≡ None
    → Keeps s (record s { nodes = nodes.handler_added s.nodes n code })
handler_added_valid s n code valid lives is no_fault =
    let old = node_at s.nodes n in
    let is_node : IsNode old = valid.nodes.each n.0 no_node lives in
    let refers : NodeRefers (made s) old = valid.refer.nodes n.0 no_node lives in
    node_changed s n (record old { handlers = old.handlers ++ code ∷ [] }) valid lives refl refl (like_itself old.shape)
    (handler_node s.nodes n code is_node is.0 no_fault)
    (record { shape = refers.shape; handlers = All-push (CodeRefers (made s)) old.handlers code refers.handlers is.1 })
