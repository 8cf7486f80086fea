use Rattle.std.proofs.Common.{◌≡◌, ◌≤◌, length, drop}
use Rattle.std.specs.FinMap as finmap
use Rattle.ff_machine.specs.Net as net
use Rattle.ff_net.proofs.pairs.pairs_of.Given as goal

-- the pairs of the rows from here on
abbrev pub invariant-loop-i : goal.invariant-loop-i
invariant-loop-i l = record {
  within : l.i ≤ length l.cookies;
  pairs : l.pairs.items ≡ net.pairs_of (finmap.from_entries (drop l.i l.cookies)) l.domain;
}

abbrev pub decreases-loop-i : goal.decreases-loop-i
decreases-loop-i l = l.i
