use Rattle.std.proofs.Common.{◌≡◌, ◌≤◌, length, drop}
use Rattle.std.specs.FinMap as finmap
use Rattle.ff_acts.specs.Held.{vars_in}
use Rattle.ff_acts.proofs.recording.sorted_of.Given as goal

-- the variables from here on
abbrev pub invariant-loop-i : goal.invariant-loop-i
invariant-loop-i l = record {
  within : l.i ≤ length l.vars;
  entries : l.sorted.entries ≡ finmap.entries (vars_in (drop l.i l.vars) l.a.0);
}

abbrev pub decreases-loop-i : goal.decreases-loop-i
decreases-loop-i l = l.i
