-- What the user points at, in valid stores.
use Rattle.std.proofs.Common.{◌≡◌, ℕ, suc, zero, ◌<◌, Bool, true, false, cond, ◌||◌, Option, Some, None, List, [], ◌∷◌, length, filter, slice_get, is_some, bytes_eq, refl, sym, ap, ◌∙◌}
use Rattle.std.specs.Prelude.{IsTrue, IfSome}
use Rattle.std.specs.List.{list_any}
use Rattle.std.proofs.lemmas.Bool.{eq-eqb}
use Rattle.ff_value.specs.declared.fault.Fault.{Fault}
use Rattle.ff_value.specs.declared.fault.Fault.TheVariants as fault
use Rattle.ff_value.specs.declared.ids.WinId.{WinId}
use Rattle.ff_value.specs.declared.ids.NodeId.{NodeId}
use Rattle.ff_machine.specs.declared.kinds.Kind.{Kind}
use Rattle.ff_machine.specs.declared.kinds.Kind.TheVariants as kind
use Rattle.ff_machine.specs.declared.records.Shape.{Shape}
use Rattle.ff_machine.specs.declared.records.Shape.TheVariants as shape
use Rattle.ff_machine.specs.Kinds.{kind_word}
use Rattle.ff_machine.specs.Shapes.{kind_of, text_of}
use Rattle.ff_machine.specs.Nodes.{node_at, Walk, text_fault}
use Rattle.ff_machine.specs.Windows.{is_win, is_open, page_at}
use Rattle.ff_machine.specs.State.{State}
use Rattle.ff_machine.specs.Inputs.{user_window, user_node, page_in}
use Rattle.ff_machine.specs.Valid.{IsStores}
use Rattle.ff_laws.proofs.Inputs.{node_there}
use Rattle.ff_stores.proofs.Opening.{open_lives}

-- a window at a place is one of the open ones
pub place_open : (opened : List WinId) (at : ℕ) (w : WinId) → slice_get opened at ≡ Some w → list_any (is_win w) opened ≡ true
place_open [] at w e = cc
place_open (v ∷ vs) zero w e = let same : v ≡ w = cc in ap (λ (b : Bool). b || list_any (is_win w) vs) (eq-eqb w.0 v.0 (ap (λ (u : WinId). u.0) (sym same)))
place_open (v ∷ vs) (suc at) w e = either (is_win w v) (place_open vs at w e) where
  either : (b : Bool) {c : Bool} → c ≡ true → b || c ≡ true
  either true h = refl
  either false h = h

-- an element that a test kept passes it
kept_passes : {X : Type 0} (test : X → Bool) (xs : List X) (i : ℕ) (x : X) → slice_get (filter test xs) i ≡ Some x → test x ≡ true
kept_passes test [] i x e = cc
kept_passes test (y ∷ ys) i x e = by (test y) refl i e (λ j. kept_passes test ys j x) where
  by : (b : Bool) → test y ≡ b → (j : ℕ) → slice_get (cond b (y ∷ filter test ys) (filter test ys)) j ≡ Some x → ((k : ℕ) → slice_get (filter test ys) k ≡ Some x → test x ≡ true) → test x ≡ true
  by true is zero e more = let same : y ≡ x = cc in ap test (sym same) ∙ is
  by true is (suc j) e more = more j e
  by false is j e more = more j e

-- the shape of a box has a text
box_text : (x : Shape) → bytes_eq (kind_word (kind_of x)) (kind_word kind.TextBox) ≡ true → is_some (text_of x) ≡ true
box_text (shape.TextBox x text) e = refl
box_text (shape.Text x text) e = refl
box_text (shape.Link x url text) e = refl
box_text (shape.Button x text) e = refl
box_text other e = cc

-- a window that stands at a place, if one does, is open
pub window_open : (s : State) (at : ℕ) (o : Option WinId) → o ≡ user_window s at → IfSome o (λ w. IsTrue (is_open s.stores.windows w))
window_open s at None e = tt
window_open s at (Some w) e = place_open s.stores.windows.opened at w (sym e)

-- the node that the user points at, if there is one, was made
pub node_within : (s : State) (w : WinId) (k : Kind) (n : ℕ) (o : Option NodeId) → IsStores s.stores → IsTrue (is_open s.stores.windows w) → o ≡ user_node s w k n
    → IfSome o (λ m. m.0 < length s.stores.nodes)
node_within s w k n None valid opened e = tt
node_within s w k n (Some m) valid opened e = node_there s valid w k n m (open_lives s.stores w valid opened) (sym e)

-- a box that the user points at has a text
pub box_has_text : (s : State) (w : WinId) (m : NodeId) (n : ℕ) → user_node s w kind.TextBox n ≡ Some m → text_fault s.stores.nodes m ≡ None
box_has_text s w m n e =
    let nodes = s.stores.nodes in
    let passes = kept_passes (λ (m : NodeId). bytes_eq (kind_word (kind_of (node_at nodes m).shape)) (kind_word kind.TextBox)) (Walk nodes (page_at s.stores.windows (page_in s w)).root) n m e in
    ap (λ (b : Bool). let why : Option Fault = cond b None (Some fault.Kind) in why) (box_text (node_at nodes m).shape passes)
