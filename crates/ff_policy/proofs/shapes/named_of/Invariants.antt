use Rattle.ff_policy.proofs.Arrays.{Gathers, named_shape}
use Rattle.ff_policy.proofs.shapes.named_of.Given as goal

abbrev pub invariant-loop-key : goal.invariant-loop-key
invariant-loop-key l = Gathers named_shape l.members.entries l.named.items l.key-iterator
