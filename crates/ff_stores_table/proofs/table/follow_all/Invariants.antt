use Rattle.ff_stores_table.specs.Counted.{AreCounted}
use Rattle.ff_stores_table.proofs.table.follow_all.Given as goal

-- the entries of the queues are counted
abbrev pub invariant-loop-line : goal.invariant-loop-line
invariant-loop-line g l = AreCounted l.queues
