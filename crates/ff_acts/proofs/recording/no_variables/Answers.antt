use Rattle.std.proofs.Common.{◌∷◌, [], length, length-append, sym, ap, subst, arith}
use Rattle.ff_acts.specs.Recorded.{AreSorted}
use Rattle.ff_acts.proofs.Recorded.{none_sorted}
use Rattle.ff_acts.proofs.recording.no_variables.Goals as goal

pub loop-act-preserved : goal.loop-act-preserved
loop-act-preserved c = record {
  count = omega (arith, ap length c.in_ok-push.ensures.items, length-append c.loop-act.each.items (c.new.result ∷ []), c.loop-act.invariant.count);
  empty = subst (AreSorted [] 0) (sym c.in_ok-push.ensures.items) (none_sorted c.loop-act.each.items c.new.result c.loop-act.invariant.empty c.new.ensures.empty);
}
