use Rattle.std.proofs.Common.{◌≡◌, length, take}
use Rattle.ff_tree.proofs.same.+same.Given as goal

abbrev pub invariant-same_docs-loop-i : goal.invariant-same_docs-loop-i
invariant-same_docs-loop-i l = (length l.xs ≡ length l.ys) × (take l.i l.xs ≡ take l.i l.ys)

abbrev pub invariant-same_exprs-loop-i : goal.invariant-same_exprs-loop-i
invariant-same_exprs-loop-i l = (length l.xs ≡ length l.ys) × (take l.i l.xs ≡ take l.i l.ys)

abbrev pub invariant-same_handlers-loop-i : goal.invariant-same_handlers-loop-i
invariant-same_handlers-loop-i l = (length l.xs ≡ length l.ys) × (take l.i l.xs ≡ take l.i l.ys)
