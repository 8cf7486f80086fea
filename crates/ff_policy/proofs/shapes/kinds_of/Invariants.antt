use Rattle.ff_policy.proofs.Arrays.{Gathers, kind_read}
use Rattle.ff_policy.proofs.shapes.kinds_of.Given as goal

abbrev pub invariant-loop-key : goal.invariant-loop-key
invariant-loop-key l = Gathers (kind_read l.version) l.members.entries l.kinds.items l.key-iterator
