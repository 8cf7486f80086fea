use Rattle.std.proofs.Common.{◌≡◌, ◌<◌, length}
use Rattle.ff_machine.specs.Windows.{holder}
use Rattle.ff_acts.specs.Held.{seen}
use Rattle.ff_acts.proofs.searching.nearest.Given as goal

-- no activation before this one has the variable
abbrev pub invariant-loop-k : goal.invariant-loop-k
invariant-loop-k l = record {
  lives : l.at.0 < length l.acts;
  same : holder (seen l.acts l.vars) l.fn.a l.name ≡ holder (seen l.acts l.vars) l.at l.name;
}

abbrev pub decreases-loop-k : goal.decreases-loop-k
decreases-loop-k l = l.at.0
