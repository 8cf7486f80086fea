use Rattle.std.proofs.Common.{All}
use Rattle.ff_pool.specs.Events.{IsEvent}
use Rattle.ff_copies_table.proofs.story.add_turns.Given as goal

abbrev pub invariant-loop : goal.invariant-loop
invariant-loop l = All (IsEvent 2) l.events.items
