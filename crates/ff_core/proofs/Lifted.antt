-- Steps of the stores as steps of the state, where memory may be refused.
use Rattle.std.proofs.Common.{◌≡◌, Bool, Option, Some, None, Result, Ok, Err, List, sym, ap, subst, ◌∙◌, append-nil}
use Rattle.ff_contract.proofs.Sequence.{front_none}
use Rattle.ff_confinement.specs.Turns.{Stepped}
use Rattle.ff_value.specs.declared.output.Out.{Out}
use Rattle.ff_machine.specs.Answers.{Makes, MakesIfRoom}
use Rattle.ff_machine.specs.Stores.{Stores}
use Rattle.ff_machine.specs.State.{State, Step, with_stores, if_room, given}

module _ (s : State) (t : Stores) (puts puts' : List Out) where
  -- a step of the stores that is made where there is room
  pub room_made : (E X : Type 0) (b : Bool) (x : X) (o : Option (Stepped Out Stores)) → MakesIfRoom s.stores t puts puts' o (let r : Result Bool E = Ok b in r)
      → Makes s (with_stores s t) puts puts' (if_room s o) (let r : Result X E = Ok x in r)
  room_made E X b x None h = (ap (with_stores s) h.1, h.2 ∙ sym (append-nil puts))
  room_made E X b x (Some step) h = (ap (with_stores s) h.1, h.2)

  -- and is refused memory
  pub room_refused : (E X : Type 0) (e : E) (o : Option (Stepped Out Stores)) → MakesIfRoom s.stores t puts puts' o (let r : Result Bool E = Err e in r)
      → Makes s (with_stores s t) puts puts' (if_room s o) (let r : Result X E = Err e in r)
  room_refused E X e None h = front_none puts puts' _ h
  room_refused E X e (Some step) h = h

-- what follows where there is something
pub given_made : {Y X E : Type 0} (s s' : State) (o : Option Y) (f : Y → Step) (puts puts' : List Out) (r : Result X E) (y : Y) → o ≡ Some y → Makes s s' puts puts' (f y) r
    → Makes s s' puts puts' (given s o f) r
given_made s s' o f puts puts' r y is h = subst (λ (p : Option _). Makes s s' puts puts' (given s p f) r) (sym is) h
