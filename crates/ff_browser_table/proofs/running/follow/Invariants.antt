use Rattle.ff_browser_table.specs.Ready.{IsReady}
use Rattle.ff_browser_table.proofs.running.follow.Given as goal

-- the script may go on
abbrev pub invariant-loop-made : goal.invariant-loop-made
invariant-loop-made g l = IsReady l.stores l.control
