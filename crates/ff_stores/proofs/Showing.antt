-- Room for a page that is made and shown.
use Rattle.std.proofs.Common.{◌≡◌, Bool, true, false, None, refl}
use Rattle.std.specs.Prelude.{◌&&◌}
use Rattle.ff_machine.specs.Faults.{limit_unless}

-- there is some for the page and for its nodes
pub both_rooms : (a b : Bool) → a ≡ true → limit_unless b ≡ None → true ≡ a && b
both_rooms true true h e = refl
both_rooms true false h e = cc
both_rooms false b h e = cc

-- there is some for a window and its page
pub window_rooms : (a c b : Bool) → a && c ≡ true → limit_unless b ≡ None → true ≡ (a && c) && (a && b)
window_rooms true true true h e = refl
window_rooms true true false h e = cc
window_rooms true false b h e = cc
window_rooms false c b h e = cc
