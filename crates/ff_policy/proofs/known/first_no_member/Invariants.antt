use Rattle.std.proofs.Common.{not}
use Rattle.ff_policy.specs.Members.{is_among, member_names}
use Rattle.ff_policy.proofs.Keys.{Searches}
use Rattle.ff_policy.proofs.known.first_no_member.Given as goal

abbrev pub invariant-loop-key : goal.invariant-loop-key
invariant-loop-key l = Searches (λ key. not (is_among member_names key)) l.members.entries l.key-iterator
