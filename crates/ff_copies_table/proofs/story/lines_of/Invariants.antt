use Rattle.std.proofs.Common.{All}
use Rattle.ff_copies_table.specs.Story.{IsLineOf}
use Rattle.ff_copies_table.proofs.story.lines_of.Given as goal

abbrev pub invariant-loop-line : goal.invariant-loop-line
invariant-loop-line l = All (IsLineOf l.policy.order) l.read.items
