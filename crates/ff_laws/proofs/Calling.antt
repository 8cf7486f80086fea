-- An activation in which a function runs keeps stores valid.
use Rattle.std.proofs.Common.{◌≡◌, ℕ, ◌+◌, ◌<◌, Some, None, List, [], ◌∷◌, ◌++◌, length, All, arith, length-append}
use Rattle.std.proofs.lemmas.List.Elements.{All-weaker}
use Rattle.ff_tree.specs.Spelled.{AreParams}
use Rattle.ff_value.specs.declared.ids.ActId.{ActId}
use Rattle.ff_value.specs.Spelled.{IsWellSpelledVal}
use Rattle.ff_value.specs.declared.value.Val.{Val}
use Rattle.ff_machine.specs.Windows.{Activation, with_act, call_fault, no_act}
use Rattle.ff_machine.specs.Stores.{Stores}
use Rattle.ff_machine.specs.Reduction.{with_acts}
use Rattle.ff_machine.specs.References.{Grows, made, ActRefers}
use Rattle.ff_machine.specs.Valid.{IsVal, IsStores}
use Rattle.ff_laws.specs.Keeps.{Keeps}
use Rattle.ff_laws.proofs.Growing as growing
use Rattle.ff_machine.proofs.Lists.{at_pushed}
use Rattle.ff_machine.proofs.ActChanges.{acts_called, passed, passed_each}
use Rattle.ff_laws.proofs.Acts.{AreKept, acts_changed}

called_kept : (s : Stores) (parent : ActId) (params : List (List ℕ)) (args : List Val) → IsStores s → parent.0 < length s.windows.acts → AreParams params
    → All (IsVal (made s)) args → call_fault s.windows.acts (length params) ≡ None → AreKept s (with_act s.windows.acts parent params args)
called_kept s parent params args valid lives names values room =
    let acts = s.windows.acts in
    let new : Activation = record { parent = Some parent; vars = passed params args } in
    let t = with_acts s (with_act acts parent params args) in
    let size : length (acts ++ new ∷ []) ≡ length acts + 1 = length-append acts (new ∷ []) in
    let grows : Grows (made s) (made t) = record { wins = omega arith; pages = omega arith; nodes = omega arith; acts = omega (arith, size) } in
    let old = growing.acts_refer_grow (made s) (made t) grows acts valid.refer.acts in
    record {
      more = omega (arith, size);
      alone = acts_called acts parent params args valid.windows.acts lives names (All-weaker (IsVal (made s)) IsWellSpelledVal (λ v is. is.0) args values) room;
      refer = λ a.
          at_pushed (λ j act. ActRefers (made t) act) acts a.0 new no_act
          (λ x v e. growing.val_refers_grows (made s) (made t) grows v (passed_each (IsVal (made s)) params args names.vars values x v e).1.1) (old a);
    }

-- an activation more, for a call with valid arguments, keeps stores valid
pub called_valid : (s : Stores) (parent : ActId) (params : List (List ℕ)) (args : List Val) → IsStores s → parent.0 < length s.windows.acts → AreParams params
    → All (IsVal (made s)) args → call_fault s.windows.acts (length params) ≡ None → Keeps s (with_acts s (with_act s.windows.acts parent params args))
called_valid s parent params args valid lives names values room =
    acts_changed s (with_act s.windows.acts parent params args) valid (called_kept s parent params args valid lives names values room)
