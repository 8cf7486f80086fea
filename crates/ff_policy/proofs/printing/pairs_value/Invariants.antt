use Rattle.std.proofs.Common.{[], map}
use Rattle.serde_json.specs.View.{view}
use Rattle.ff_policy.specs.Printing.{pairs_from}
use Rattle.ff_policy.proofs.Values.{Adds}
use Rattle.ff_policy.proofs.printing.pairs_value.Given as goal

abbrev pub invariant-loop-low : goal.invariant-loop-low
invariant-loop-low l = Adds (pairs_from l.lattice) [] (map view l.pairs.items) l.low
