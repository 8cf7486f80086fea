-- Marks: what is within what.
use Rattle.std.proofs.Common.{◌≡◌, ◌≤◌, ℕ, bit_or, arith}
use Rattle.std.specs.Int.{bit_at}
use Rattle.std.proofs.lemmas.Nat.Bits.{bit_at-lt, bit_at_or}
use Rattle.ff_machine.specs.Nodes.{Node}
use Rattle.ff_machine.specs.Shapes.{kind_of}
use Rattle.ff_nodes.specs.declared.marks.Marks.{Marks}
use Rattle.ff_nodes.specs.Marked.{name_bit, kind_bit, IsOwn, IsWithin, AreWithin}

-- marks are within themselves
pub within_itself : (a : Marks) → AreWithin a a
within_itself a = record { names = λ i. omega arith; kinds = λ i. omega arith }

-- and within what those that they are within are within
pub within_through : (a b c : Marks) → AreWithin a b → AreWithin b c → AreWithin a c
within_through a b c first second = record {
  names = λ i. omega (arith, first.names i, second.names i);
  kinds = λ i. omega (arith, first.kinds i, second.kinds i);
}

set_within : (a b i : ℕ) → bit_at a i ≡ 1 → bit_at a i ≤ bit_at b i → bit_at b i ≡ 1
set_within a b i set less = omega (arith, set, less, bit_at-lt b i)

-- a node's own bits are set in greater marks too
pub own_within : (node : Node) (a b : Marks) → IsOwn node a → AreWithin a b → IsOwn node b
own_within node a b own within = record {
  name = λ x is. set_within a.names b.names (name_bit x) (own.name x is) (within.names (name_bit x));
  kind = set_within a.kinds b.kinds (kind_bit (kind_of node.shape)) own.kind (within.kinds (kind_bit (kind_of node.shape)));
}

-- marks put together hold both
pub within_first : (a b : ℕ) → IsWithin a (bit_or a b)
within_first a b i = let both = bit_at_or a b i in grind (arith, both)

pub within_second : (a b : ℕ) → IsWithin b (bit_or a b)
within_second a b i = let both = bit_at_or a b i in grind (arith, both)
