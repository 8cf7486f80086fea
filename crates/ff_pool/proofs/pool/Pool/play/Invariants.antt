use Rattle.std.proofs.Common.{◌≡◌, ◌+◌, ◌≤◌, false, drop}
use Rattle.ff_pool.specs.Pooled.{size, played}
use Rattle.ff_pool.specs.Events.{events_of, turns_of_events}
use Rattle.ff_pool.proofs.pool.Pool.play.Given as goal

abbrev pub invariant-loop-event : goal.invariant-loop-event
invariant-loop-event g l = record {
  rest : played l.self (events_of (drop l.event-index l.events)) ≡ played l.fn.self (events_of l.events);
  count : l.turns + turns_of_events l.self (drop l.event-index l.events) ≡ l.fn.turns + turns_of_events l.fn.self l.events;
  unspent : l.self.spent ≡ false;
  levels : size l.self ≡ size l.fn.self;
  turns_later : l.fn.turns ≤ l.turns;
  later : l.fn.copies ≤ l.copies;
}
