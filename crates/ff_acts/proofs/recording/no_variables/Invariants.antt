use Rattle.std.proofs.Common.{◌≡◌, [], length}
use Rattle.ff_acts.specs.Recorded.{AreSorted}
use Rattle.ff_acts.proofs.recording.no_variables.Given as goal

abbrev pub invariant-loop-act : goal.invariant-loop-act
invariant-loop-act l = record {
  count : length l.each.items ≡ l._act;
  empty : AreSorted [] 0 l.each.items;
}
