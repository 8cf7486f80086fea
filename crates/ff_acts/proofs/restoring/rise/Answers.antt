use Rattle.std.proofs.Common.{◌≡◌, ◌-◌, arith, true, false}
use Rattle.std.specs.Ordering.{nat_cmp, is_lt}
use Rattle.std.specs.Cmp.Lexicographic.{slice_cmp, nat_list_cmp_total}
use Rattle.ff_records.proofs.Rising.{last_rises, more_rise, fall}
use Rattle.ff_acts.specs.Recorded.{entry_of}
use Rattle.ff_acts.proofs.restoring.rise.Goals as goal

pub loop-i-init : goal.loop-i-init
loop-i-init c = record { within = omega arith; rise = last_rises nat_list_cmp_total entry_of c.args.vars.now _ (omega arith) }

pub returns-then-not-comes_after : goal.returns-then-not-comes_after
returns-then-not-comes_after c =
    let not_less : is_lt (slice_cmp nat_cmp c.index-vars-i-in-loop-i.result.name c.index-vars-i.result.name) ≡ false = cc in
    (λ h. cc, λ h. absurd (fall nat_list_cmp_total entry_of c.args.vars.now (c.loop-i.i - 1) c.loop-i.i (omega (arith, c.loop-i-test.true)) c.loop-i.invariant.within c.index-vars-i-in-loop-i.result c.index-vars-i.result c.index-vars-i-in-loop-i.is c.index-vars-i.is not_less h))

pub loop-i-preserved : goal.loop-i-preserved
loop-i-preserved c =
    let less : is_lt (slice_cmp nat_cmp c.index-vars-i-in-loop-i.result.name c.index-vars-i.result.name) ≡ true = cc in
    record {
      within = omega (arith, c.loop-i.invariant.within);
      rise = more_rise nat_list_cmp_total entry_of c.args.vars.now (c.loop-i.i - 1) c.loop-i.i (omega (arith, c.loop-i-test.true)) c.loop-i.invariant.within c.index-vars-i-in-loop-i.result c.index-vars-i.result c.index-vars-i-in-loop-i.is c.index-vars-i.is less c.loop-i.invariant.rise;
    }
