use Rattle.std.proofs.Common.{drop}
use Rattle.ff_policy.proofs.Arrays.{Gathers, text_shape}
use Rattle.ff_policy.proofs.shapes.texts_of.Given as goal

abbrev pub invariant-loop-item : goal.invariant-loop-item
invariant-loop-item l = Gathers text_shape l.items l.texts.items (drop l.item-index l.items)
