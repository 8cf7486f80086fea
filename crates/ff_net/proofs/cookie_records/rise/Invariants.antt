use Rattle.std.proofs.Common.{◌<◌, length, drop}
use Rattle.ff_net.proofs.Recorded.{Rises}
use Rattle.ff_net.proofs.cookie_records.rise.Given as goal

abbrev pub invariant-loop-i : goal.invariant-loop-i
invariant-loop-i l = record {
  within : l.i < length l.recs;
  rise : Rises (drop l.i l.recs);
}

abbrev pub decreases-loop-i : goal.decreases-loop-i
decreases-loop-i l = l.i
