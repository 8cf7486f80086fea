use Rattle.std.proofs.Common.{◌≡◌, ◌≤◌, length, drop}
use Rattle.ff_acts.specs.Recorded.{AreSorted}
use Rattle.ff_acts.proofs.recording.sort_each.Given as goal

-- the variables from here on
abbrev pub invariant-loop-i : goal.invariant-loop-i
invariant-loop-i l = record {
  within : l.i ≤ length l.vars;
  sorted : AreSorted (drop l.i l.vars) 0 l.each;
  count : length l.each ≡ length l.initial.each;
}

abbrev pub decreases-loop-i : goal.decreases-loop-i
decreases-loop-i l = l.i
