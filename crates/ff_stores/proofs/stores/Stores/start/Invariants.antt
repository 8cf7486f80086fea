use Rattle.std.proofs.Common.{◌≤◌, ◌+◌, ◌*◌}
use Rattle.ff_stores.proofs.Started.{IsStarting}
use Rattle.ff_stores.proofs.stores.Stores.start.Given as goal

abbrev pub invariant-loop-script : goal.invariant-loop-script
invariant-loop-script g l = IsStarting l.page l.script-items l.initial.self l.initial.outs.items l.script-index l.self l.outs.items × (l.initial.copies ≤ l.copies) × (l.copies ≤ l.initial.copies + 81 * l.script-index)
