-- What operands are that are lent.
use Rattle.std.specs.Prelude.{ℕ, ℤ, List, Option, Some, None}
use Rattle.std.specs.Borrow.{Bor}
use Rattle.ff_value.specs.declared.ids.WinId.{WinId}
use Rattle.ff_value.specs.declared.ids.NodeId.{NodeId}
use Rattle.ff_value.specs.declared.value.Code.{Code}

-- a window and a text
abbrev pub win_text_lent : Option (WinId × Bor (List ℕ)) → Option (WinId × List ℕ)
win_text_lent None = None
win_text_lent (Some o) = Some (o.0, o.1.now)

-- a node and a text
abbrev pub node_text_lent : Option (NodeId × Bor (List ℕ)) → Option (NodeId × List ℕ)
node_text_lent None = None
node_text_lent (Some o) = Some (o.0, o.1.now)

-- a node, a text and a number
abbrev pub node_text_num_lent : Option (NodeId × Bor (List ℕ) × ℤ) → Option (NodeId × List ℕ × ℤ)
node_text_num_lent None = None
node_text_num_lent (Some o) = Some (o.0, o.1.now, o.2)

-- a node and a function
abbrev pub node_code_lent : Option (NodeId × Bor Code) → Option (NodeId × Code)
node_code_lent None = None
node_code_lent (Some o) = Some (o.0, o.1.now)

-- two texts and a function
abbrev pub texts_code_lent : Option (Bor (List ℕ) × Bor (List ℕ) × Bor Code) → Option (List ℕ × List ℕ × Code)
texts_code_lent None = None
texts_code_lent (Some o) = Some (o.0.now, o.1.now, o.2.now)
