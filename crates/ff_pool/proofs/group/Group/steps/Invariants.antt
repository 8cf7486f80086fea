use Rattle.std.proofs.Common.{◌≤◌, All}
use Rattle.ff_value.specs.Spelled.{IsWellSpelledInput}
use Rattle.ff_pool.specs.Heads.{IsStepped}
use Rattle.ff_pool.proofs.group.Group.steps.Given as goal

abbrev pub invariant-loop-step : goal.invariant-loop-step
invariant-loop-step g l = record {
  done : IsStepped l.fn.self l.fn.outs.items l.fn.turns l.self l.outs.items l.turns;
  spelled : All IsWellSpelledInput l.self.inbox;
  turns_later : l.fn.turns ≤ l.turns;
  later : l.fn.copies ≤ l.copies;
}
