-- Marks: bits of the names and kinds that may stand at and below a node.
use Rattle.std.specs.Prelude.{◌≡◌, ℕ, ◌+◌, ◌*◌, ◌%◌, ◌≤◌, Some, List, fold}
use Rattle.std.specs.Int.{bit_at}
use Rattle.ff_machine.specs.declared.kinds.Kind.{Kind}
use Rattle.ff_machine.specs.declared.kinds.Kind.TheVariants as kind
use Rattle.ff_machine.specs.Nodes.{Node}
use Rattle.ff_machine.specs.Shapes.{kind_of, name_of}
use Rattle.ff_nodes.specs.declared.marks.Marks.{Marks}

-- the number of a name's bit after one byte more
abbrev pub next_bit : ℕ → ℕ → ℕ
next_bit at b = (at * 31 + b) % 64

-- the number of a name's bit
abbrev pub name_bit : List ℕ → ℕ
name_bit x = fold next_bit 0 x

-- the number of a kind's bit
abbrev pub kind_bit : Kind → ℕ
kind_bit kind.Page = 0
kind_bit kind.Text = 1
kind_bit kind.Link = 2
kind_bit kind.TextBox = 3
kind_bit kind.Button = 4
kind_bit kind.Script = 5
kind_bit kind.Src = 6
kind_bit kind.Div = 7

-- the bits of a node's own name and kind are set
pub record IsOwn (node : Node) (marks : Marks) : Type 0 where
  pub name : (x : List ℕ) → name_of node.shape ≡ Some x → bit_at marks.names (name_bit x) ≡ 1
  pub kind : bit_at marks.kinds (kind_bit (kind_of node.shape)) ≡ 1

-- what is set in one number is set in the other
abbrev pub IsWithin : ℕ → ℕ → Type 0
IsWithin a b = (i : ℕ) → bit_at a i ≤ bit_at b i

-- what is set in one's marks is set in the other's
pub record AreWithin (a b : Marks) : Type 0 where
  pub names : IsWithin a.names b.names
  pub kinds : IsWithin a.kinds b.kinds
