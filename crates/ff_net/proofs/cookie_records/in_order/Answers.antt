use Rattle.std.proofs.Common.{◌-◌, arith, ap, ◌∙◌, drop}
use Rattle.std.specs.BTreeMap.{insert_entry}
use Rattle.std.specs.FinMap as finmap
use Rattle.ff_machine.specs.Net.{cookie_cmp}
use Rattle.ff_net.proofs.Cookies.{Entry, cookie_total}
use Rattle.ff_records.proofs.Sorted.{sorted_none, sorted_more}
use Rattle.ff_net.proofs.cookie_records.in_order.Goals as goal

pub loop-i-init : goal.loop-i-init
loop-i-init c = record { within = omega arith; entries = c.new-sorted.ensures.empty ∙ sorted_none cookie_cmp c.args.cookies.now c.len-i.result c.len-i.ensures }

pub loop-i-preserved-in-Ok : goal.loop-i-preserved-in-Ok
loop-i-preserved-in-Ok c = record {
  within = omega (arith, c.loop-i.invariant.within);
  entries =
      c.in-Ok.ensures.entries
      ∙ ap (λ es. insert_entry cookie_cmp es (c.in_ok-domain.domain, c.in_ok-domain.key) c.in_ok-domain.value) c.loop-i.invariant.entries
      ∙ ap (λ (x : Entry). insert_entry cookie_cmp (finmap.entries (finmap.from_entries {R = cookie_cmp} (drop c.loop-i.i c.args.cookies.now))) x.0 x.1) c.in_ok-domain.ensures
      ∙ sorted_more cookie_cmp cookie_total c.args.cookies.now (c.loop-i.i - 1) c.loop-i.i (omega (arith, c.loop-i-test.true)) c.at.result.now c.at.ensures;
}

pub loop-i-preserved-in-Ok-2 : goal.loop-i-preserved-in-Ok-2
loop-i-preserved-in-Ok-2 c = record {
  within = omega (arith, c.loop-i.invariant.within);
  entries =
      c.in-Ok.ensures.entries
      ∙ ap (λ es. insert_entry cookie_cmp es (c.in_ok-domain.domain, c.in_ok-domain.key) c.in_ok-domain.value) c.loop-i.invariant.entries
      ∙ ap (λ (x : Entry). insert_entry cookie_cmp (finmap.entries (finmap.from_entries {R = cookie_cmp} (drop c.loop-i.i c.args.cookies.now))) x.0 x.1) c.in_ok-domain.ensures
      ∙ sorted_more cookie_cmp cookie_total c.args.cookies.now (c.loop-i.i - 1) c.loop-i.i (omega (arith, c.loop-i-test.true)) c.at.result.now c.at.ensures;
}
