use Rattle.std.proofs.Common.{[], List, map, sym, ap, subst, arith}
use Rattle.serde_json.specs.Data.{Data}
use Rattle.serde_json.specs.View.{view}
use Rattle.ff_policy.specs.Printing.{pairs_from}
use Rattle.ff_policy.proofs.Values.{Adds, adds_none, adds_next, pairs_done}
use Rattle.ff_policy.proofs.printing.pairs_value.Goals as goal

pub loop-low-init : goal.loop-low-init
loop-low-init c =
    subst (λ (ds : List Data). Adds (pairs_from c.args.lattice.now) [] ds 0) (sym (ap (map view) c.new-pairs.ensures.items)) (adds_none (pairs_from c.args.lattice.now) [])

pub loop-low-preserved : goal.loop-low-preserved
loop-low-preserved c = adds_next (pairs_from c.args.lattice.now) [] (map view c.loop-low.pairs.items) _ c.loop-low.low c.loop-low.invariant c.in_ok-add_pairs.ensures

pub returns : goal.returns
returns c = pairs_done c.args.lattice.now c.loop-low.pairs c.loop-low.low c.loop-low.invariant (omega arith)
