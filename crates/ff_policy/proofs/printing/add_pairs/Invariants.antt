use Rattle.std.proofs.Common.{map}
use Rattle.serde_json.specs.View.{view}
use Rattle.ff_policy.specs.Printing.{pair_if}
use Rattle.ff_policy.proofs.Values.{Adds}
use Rattle.ff_policy.proofs.printing.add_pairs.Given as goal

abbrev pub invariant-loop-high : goal.invariant-loop-high
invariant-loop-high l = Adds (pair_if l.lattice l.low.0) (map view l.initial.pairs.items) (map view l.pairs.items) l.high
