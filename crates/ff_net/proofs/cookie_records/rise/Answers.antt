use Rattle.std.proofs.Common.{◌≡◌, ◌-◌, arith, true, false}
use Rattle.std.specs.Ordering.{is_lt}
use Rattle.ff_machine.specs.Net.{cookie_cmp}
use Rattle.ff_net.specs.Cookies.{entry_of}
use Rattle.ff_net.proofs.Cookies.{cookie_total}
use Rattle.ff_records.proofs.Rising.{last_rises, more_rise, fall}
use Rattle.ff_net.proofs.cookie_records.rise.Goals as goal

pub loop-i-init : goal.loop-i-init
loop-i-init c = record { within = omega arith; rise = last_rises cookie_total entry_of c.args.recs.now _ (omega arith) }

pub returns-then-not-comes_after : goal.returns-then-not-comes_after
returns-then-not-comes_after c =
    let not_less : is_lt (cookie_cmp (entry_of c.index-recs-i-in-loop-i.result).0 (entry_of c.index-recs-i.result).0) ≡ false = cc in
    (λ h. cc, λ h. absurd (fall cookie_total entry_of c.args.recs.now (c.loop-i.i - 1) c.loop-i.i (omega (arith, c.loop-i-test.true)) c.loop-i.invariant.within c.index-recs-i-in-loop-i.result c.index-recs-i.result c.index-recs-i-in-loop-i.is c.index-recs-i.is not_less h))

pub loop-i-preserved : goal.loop-i-preserved
loop-i-preserved c =
    let less : is_lt (cookie_cmp (entry_of c.index-recs-i-in-loop-i.result).0 (entry_of c.index-recs-i.result).0) ≡ true = cc in
    record {
      within = omega (arith, c.loop-i.invariant.within);
      rise = more_rise cookie_total entry_of c.args.recs.now (c.loop-i.i - 1) c.loop-i.i (omega (arith, c.loop-i-test.true)) c.loop-i.invariant.within c.index-recs-i-in-loop-i.result c.index-recs-i.result c.index-recs-i-in-loop-i.is c.index-recs-i.is less c.loop-i.invariant.rise;
    }
