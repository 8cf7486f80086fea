use Rattle.std.proofs.Common.{◌≡◌}
use Rattle.ff_pool.proofs.Parting.{leaders_below}
use Rattle.ff_pool.proofs.classes.split.Given as goal

abbrev pub invariant-loop-l : goal.invariant-loop-l
invariant-loop-l l = l.new.items ≡ leaders_below l.leaders l.offers l.l
