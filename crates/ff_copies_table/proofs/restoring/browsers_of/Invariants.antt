use Rattle.std.proofs.Common.{All}
use Rattle.ff_pool.specs.Restored.{IsReady}
use Rattle.ff_copies_table.proofs.restoring.browsers_of.Given as goal

abbrev pub invariant-loop : goal.invariant-loop
invariant-loop l = All (IsReady 5) l.browsers.items
