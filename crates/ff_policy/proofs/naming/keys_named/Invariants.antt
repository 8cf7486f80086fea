use Rattle.ff_policy.proofs.Assigning.{Assigns}
use Rattle.ff_policy.proofs.naming.keys_named.Given as goal

abbrev pub invariant-loop-one : goal.invariant-loop-one
invariant-loop-one l = Assigns l.lattice l.domains l.keys.items l.one-index
