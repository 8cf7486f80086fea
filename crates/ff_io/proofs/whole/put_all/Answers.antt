use Rattle.std.proofs.Common.{rules, arith}
use Rattle.std.proofs.lemmas.Grind.{common_steps}
use Rattle.ff_io.proofs.Writing.{put_more, left_of_nothing}
use Rattle.ff_io.proofs.whole.put_all.Goals as goal

pub loop-left-preserved : goal.loop-left-preserved
loop-left-preserved g c = record {
  so_far =
      put_more _ _ _ _ _ _ _ c.loop-left.invariant.so_far c.in_ok-n.ensures.some c.in_ok-n.ensures.bound c.in_ok-n.ensures.log
      (grind (arith, common_steps));
  none = λ e. absurd (left_of_nothing _ _ _ _ c.in_ok-n.n c.loop-left.invariant.so_far c.in_ok-n.ensures.some c.in_ok-n.ensures.bound e);
  rest = search rules;
  later = search rules;
  others = search rules;
}
