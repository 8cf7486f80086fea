use Rattle.std.proofs.Common.{◌≡◌, ◌-◌, true, false, arith}
use Rattle.std.specs.Ordering.{nat_cmp, is_lt}
use Rattle.std.specs.Cmp.Lexicographic.{slice_cmp}
use Rattle.ff_net.proofs.Climbing.{last_climbs, more_climb, falls}
use Rattle.ff_net.proofs.ask_records.climb.Goals as goal

pub loop-i-init : goal.loop-i-init
loop-i-init c = record { within = omega (arith, c.if-count-eq0.false); climb = last_climbs c.args.recs.now _ (omega (arith, c.if-count-eq0.false)) }

pub returns-then-comes_before : goal.returns-then-comes_before
returns-then-comes_before c =
    let less : is_lt (slice_cmp nat_cmp c.index-recs-i.result.domain c.index-recs-i-in-loop-i.result.domain) ≡ true = cc in
    (λ h. cc, λ h. absurd (falls c.args.recs.now (c.loop-i.i - 1) c.loop-i.i (omega (arith, c.loop-i-test.true)) c.loop-i.invariant.within c.index-recs-i-in-loop-i.result c.index-recs-i.result c.index-recs-i-in-loop-i.is c.index-recs-i.is less h))

pub loop-i-preserved : goal.loop-i-preserved
loop-i-preserved c =
    let no : is_lt (slice_cmp nat_cmp c.index-recs-i.result.domain c.index-recs-i-in-loop-i.result.domain) ≡ false = cc in
    record {
      within = omega (arith, c.loop-i.invariant.within);
      climb = more_climb c.args.recs.now (c.loop-i.i - 1) c.loop-i.i (omega (arith, c.loop-i-test.true)) c.loop-i.invariant.within c.index-recs-i-in-loop-i.result c.index-recs-i.result c.index-recs-i-in-loop-i.is c.index-recs-i.is no c.loop-i.invariant.climb;
    }
