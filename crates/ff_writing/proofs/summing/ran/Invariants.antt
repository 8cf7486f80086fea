use Rattle.std.proofs.Common.{◌≤◌}
use Rattle.ff_writing.proofs.Drawing.{IsDrawing}
use Rattle.ff_writing.proofs.summing.ran.Given as goal

abbrev pub invariant-loop-drawn : goal.invariant-loop-drawn
invariant-loop-drawn g l = IsDrawing l.policy l.start l.fn.turns l.draws l.pool l.text.items l.turns l._drawn × (l.fn.copies ≤ l.copies)
