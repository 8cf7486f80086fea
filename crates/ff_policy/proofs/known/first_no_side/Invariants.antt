use Rattle.std.proofs.Common.{not}
use Rattle.ff_policy.specs.Members.{is_among, side_names}
use Rattle.ff_policy.proofs.Keys.{Searches}
use Rattle.ff_policy.proofs.known.first_no_side.Given as goal

abbrev pub invariant-loop-key : goal.invariant-loop-key
invariant-loop-key l = Searches (λ key. not (is_among side_names key)) l.sides.entries l.key-iterator
