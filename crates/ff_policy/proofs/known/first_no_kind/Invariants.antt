use Rattle.std.proofs.Common.{not}
use Rattle.ff_policy.specs.Members.{is_among, kind_names}
use Rattle.ff_policy.proofs.Keys.{Searches}
use Rattle.ff_policy.proofs.known.first_no_kind.Given as goal

abbrev pub invariant-loop-key : goal.invariant-loop-key
invariant-loop-key l = Searches (λ key. not (is_among (kind_names l.version) key)) l.kinds.entries l.key-iterator
