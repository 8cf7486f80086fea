use Rattle.std.proofs.Common.{◌<◌, length, drop}
use Rattle.ff_acts.specs.Recorded.{Rise}
use Rattle.ff_acts.proofs.restoring.rise.Given as goal

abbrev pub invariant-loop-i : goal.invariant-loop-i
invariant-loop-i l = record {
  within : l.i < length l.vars;
  rise : Rise (drop l.i l.vars);
}

abbrev pub decreases-loop-i : goal.decreases-loop-i
decreases-loop-i l = l.i
