-- What stands around the part at hand.
use Rattle.std.specs.Prelude.{ℕ, List}
use Rattle.ff_tree.specs.declared.tree.Expr.{Expr}
use Rattle.ff_value.specs.declared.ids.ActId.{ActId}
use Rattle.ff_value.specs.declared.value.Val.{Val}

-- `Part`, a form with the values of its first operands; `Do`, the parts of a `do` and the place of
-- the next; `Loop`, a turn of a loop; `Last`, a `do` of the part at hand alone; `Inside`, a call
-- and the activation outside of it
pub data Frame : Type 0 where
  Part : Expr → List Val → Frame
  Do : List Expr → ℕ → Frame
  Loop : Expr → Frame
  Last : Frame
  Inside : ActId → Frame
