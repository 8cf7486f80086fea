use Rattle.std.proofs.Common.{drop}
use Rattle.ff_policy.proofs.Arrays.{Gathers, pair_shape}
use Rattle.ff_policy.proofs.shapes.pairs_of.Given as goal

abbrev pub invariant-loop-item : goal.invariant-loop-item
invariant-loop-item l = Gathers pair_shape l.items l.pairs.items (drop l.item-index l.items)
