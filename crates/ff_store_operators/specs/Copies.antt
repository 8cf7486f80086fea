-- How many cells operators copy at most.
use Rattle.std.specs.Prelude.{ℕ, ℤ, ◌+◌, nat_abs, List}
use Rattle.std.specs.Option.{option_map_or}
use Rattle.ff_tree.specs.declared.op.Op.{Op}
use Rattle.ff_tree.specs.declared.op.Op.TheVariants as op
use Rattle.ff_value.specs.declared.ids.NodeId.{NodeId}
use Rattle.ff_value.specs.declared.value.Val.{Val}
use Rattle.ff_operators.specs.Operands.{nodes_num}
use Rattle.ff_machine.specs.Nodes.{joined}
use Rattle.ff_machine.specs.Stores.{Stores}
use Rattle.ff_stores.specs.Copied.{starting}

-- for a child that is put under a parent at a place: 4128, and for its scripts that start
abbrev pub inserting : Stores → NodeId → NodeId → ℤ → ℕ
inserting s p c at = 4128 + starting (joined s.nodes p c (nat_abs at)) c

-- for what an operator does with its operands; operators that aren't named copy none
abbrev pub most_copies : Stores → Op → List Val → ℕ
most_copies s op.SetCookie args = 16
most_copies s op.DelCookie args = 17
most_copies s op.Open args = 125
most_copies s op.OpenNamed args = 125
most_copies s op.Go args = 94
most_copies s op.SetText args = 64
most_copies s op.Insert args = option_map_or (λ (o : NodeId × NodeId × ℤ). inserting s o.0 o.1 o.2) (nodes_num args) 0
most_copies s op.Listen args = 16
most_copies s op.Ask args = 33
most_copies s other args = 0
