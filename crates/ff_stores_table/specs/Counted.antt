-- How many entries the queues of a case may have.
use Rattle.std.specs.Prelude.{◌≤◌}
use Rattle.ff_windows.specs.Queues.{count_entries}
use Rattle.ff_stores_table.specs.declared.queues.Queues.{Queues}

-- neither the windows nor their fork have more entries than were counted
pub record AreCounted (q : Queues) : Type 0 where
  pub now : count_entries q.windows ≤ q.most
  pub kept : count_entries q.kept ≤ q.most
