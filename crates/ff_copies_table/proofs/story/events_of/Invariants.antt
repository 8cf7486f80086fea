use Rattle.std.proofs.Common.{All}
use Rattle.ff_pool.specs.Events.{IsEvent}
use Rattle.ff_copies_table.proofs.story.events_of.Given as goal

abbrev pub invariant-loop-line : goal.invariant-loop-line
invariant-loop-line l = All (IsEvent 2) l.events.items
