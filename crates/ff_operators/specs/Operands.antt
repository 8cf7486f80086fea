-- The operands of operators: those of the kinds, from left to right, that a name says.
use Rattle.std.specs.Prelude.{ℕ, ℤ, Bool, Option, Some, None, Result, Err, List, [], ◌∷◌}
use Rattle.ff_value.specs.declared.fault.Fault.{Fault}
use Rattle.ff_value.specs.declared.fault.Fault.TheVariants as fault
use Rattle.ff_value.specs.declared.ids.WinId.{WinId}
use Rattle.ff_value.specs.declared.ids.NodeId.{NodeId}
use Rattle.ff_value.specs.declared.value.Code.{Code}
use Rattle.ff_value.specs.declared.value.Val.{Val}
use Rattle.ff_value.specs.declared.value.Val.TheVariants as val

-- what an operator gives for operands of the kinds that it takes; for others a fault
abbrev pub with_operands : {X Y : Type 0} → Option X → (X → Result Y Fault) → Result Y Fault
with_operands None f = Err fault.Kind
with_operands (Some operands) f = f operands

-- no operand
abbrev pub no_operands : List Val → Option (Unit {0})
no_operands [] = Some tt
no_operands other = None

-- a number
abbrev pub one_num : List Val → Option ℤ
one_num (val.Num a ∷ []) = Some a
one_num other = None

-- two numbers
abbrev pub two_nums : List Val → Option (ℤ × ℤ)
two_nums (val.Num a ∷ val.Num b ∷ []) = Some (a, b)
two_nums other = None

-- a truth value
abbrev pub one_bool : List Val → Option Bool
one_bool (val.Bool a ∷ []) = Some a
one_bool other = None

-- a text
abbrev pub one_str : List Val → Option (List ℕ)
one_str (val.Str a ∷ []) = Some a
one_str other = None

-- two texts
abbrev pub two_strs : List Val → Option (List ℕ × List ℕ)
two_strs (val.Str a ∷ val.Str b ∷ []) = Some (a, b)
two_strs other = None

-- a text and a number
abbrev pub str_num : List Val → Option (List ℕ × ℤ)
str_num (val.Str a ∷ val.Num b ∷ []) = Some (a, b)
str_num other = None

-- a text and two numbers
abbrev pub str_nums : List Val → Option (List ℕ × ℤ × ℤ)
str_nums (val.Str a ∷ val.Num b ∷ val.Num c ∷ []) = Some (a, b, c)
str_nums other = None

-- a window
abbrev pub one_win : List Val → Option WinId
one_win (val.Win a ∷ []) = Some a
one_win other = None

-- a window and a text
abbrev pub win_str : List Val → Option (WinId × List ℕ)
win_str (val.Win a ∷ val.Str b ∷ []) = Some (a, b)
win_str other = None

-- a node
abbrev pub one_node : List Val → Option NodeId
one_node (val.Node a ∷ []) = Some a
one_node other = None

-- a node and a text
abbrev pub node_str : List Val → Option (NodeId × List ℕ)
node_str (val.Node a ∷ val.Str b ∷ []) = Some (a, b)
node_str other = None

-- a node and a number
abbrev pub node_num : List Val → Option (NodeId × ℤ)
node_num (val.Node a ∷ val.Num b ∷ []) = Some (a, b)
node_num other = None

-- a node, a text and a number
abbrev pub node_str_num : List Val → Option (NodeId × List ℕ × ℤ)
node_str_num (val.Node a ∷ val.Str b ∷ val.Num c ∷ []) = Some (a, b, c)
node_str_num other = None

-- two nodes and a number
abbrev pub nodes_num : List Val → Option (NodeId × NodeId × ℤ)
nodes_num (val.Node a ∷ val.Node b ∷ val.Num c ∷ []) = Some (a, b, c)
nodes_num other = None

-- a node and a function
abbrev pub node_code : List Val → Option (NodeId × Code)
node_code (val.Node a ∷ val.Code b ∷ []) = Some (a, b)
node_code other = None

-- two texts and a function
abbrev pub strs_code : List Val → Option (List ℕ × List ℕ × Code)
strs_code (val.Str a ∷ val.Str b ∷ val.Code c ∷ []) = Some (a, b, c)
strs_code other = None
