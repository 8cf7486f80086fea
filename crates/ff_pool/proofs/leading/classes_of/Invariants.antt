use Rattle.std.proofs.Common.{◌≡◌}
use Rattle.ff_pool.proofs.Leaders.{classes_below}
use Rattle.ff_pool.proofs.leading.classes_of.Given as goal

abbrev pub invariant-loop-l : goal.invariant-loop-l
invariant-loop-l l = l.classes.items ≡ classes_below l.leaders l.l
