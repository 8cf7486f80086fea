use Rattle.std.proofs.Common.{◌≡◌, ◌≤◌, take}
use Rattle.ff_machine.specs.Valid.{count_started}
use Rattle.ff_nodes.proofs.nodes.Nodes.count_started.Given as goal

abbrev pub invariant-loop-i : goal.invariant-loop-i
invariant-loop-i l = record {
  count : l.count ≡ count_started (take l.i l.self);
  few : l.count ≤ l.i;
}
