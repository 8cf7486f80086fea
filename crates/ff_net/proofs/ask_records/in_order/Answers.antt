use Rattle.std.proofs.Common.{◌-◌, List, ℕ, arith, ap, ◌∙◌, drop}
use Rattle.std.specs.Ordering.{nat_cmp}
use Rattle.std.specs.BTreeMap.{insert_entry}
use Rattle.std.specs.Cmp.Lexicographic.{slice_cmp, nat_list_cmp_total}
use Rattle.std.specs.FinMap as finmap
use Rattle.ff_machine.specs.declared.records.Pending.{Pending}
use Rattle.ff_records.proofs.Sorted.{sorted_none, sorted_more}
use Rattle.ff_net.proofs.ask_records.in_order.Goals as goal

pub loop-i-init : goal.loop-i-init
loop-i-init c = record { within = omega (arith, c.len-i.ensures); entries = c.new-sorted.ensures.empty ∙ sorted_none (slice_cmp nat_cmp) c.args.rows.now c.len-i.result c.len-i.ensures }

pub loop-i-preserved-in-Ok : goal.loop-i-preserved-in-Ok
loop-i-preserved-in-Ok c = record {
  within = omega (arith, c.loop-i.invariant.within);
  entries =
      c.in-Ok.ensures.entries
      ∙ ap (λ es. insert_entry (slice_cmp nat_cmp) es c.in_ok-domain.domain c.in_ok-asks.asks) c.loop-i.invariant.entries
      ∙ ap (λ (k : List ℕ). insert_entry (slice_cmp nat_cmp) (finmap.entries (finmap.from_entries {R = slice_cmp nat_cmp} (drop c.loop-i.i c.args.rows.now))) k c.in_ok-asks.asks) (c.in_ok-domain.ensures ∙ c.domain.ensures)
      ∙ ap (λ (ps : List Pending). insert_entry (slice_cmp nat_cmp) (finmap.entries (finmap.from_entries {R = slice_cmp nat_cmp} (drop c.loop-i.i c.args.rows.now))) c.at-row.result.now.0 ps) (c.in_ok-asks.ensures ∙ c.asks.ensures)
      ∙ sorted_more (slice_cmp nat_cmp) nat_list_cmp_total c.args.rows.now (c.loop-i.i - 1) c.loop-i.i (omega (arith, c.loop-i-test.true)) c.at-row.result.now c.at-row.ensures;
}

pub loop-i-preserved-in-Ok-2 : goal.loop-i-preserved-in-Ok-2
loop-i-preserved-in-Ok-2 c = record {
  within = omega (arith, c.loop-i.invariant.within);
  entries =
      c.in-Ok.ensures.entries
      ∙ ap (λ es. insert_entry (slice_cmp nat_cmp) es c.in_ok-domain.domain c.in_ok-asks.asks) c.loop-i.invariant.entries
      ∙ ap (λ (k : List ℕ). insert_entry (slice_cmp nat_cmp) (finmap.entries (finmap.from_entries {R = slice_cmp nat_cmp} (drop c.loop-i.i c.args.rows.now))) k c.in_ok-asks.asks) (c.in_ok-domain.ensures ∙ c.domain.ensures)
      ∙ ap (λ (ps : List Pending). insert_entry (slice_cmp nat_cmp) (finmap.entries (finmap.from_entries {R = slice_cmp nat_cmp} (drop c.loop-i.i c.args.rows.now))) c.at-row.result.now.0 ps) (c.in_ok-asks.ensures ∙ c.asks.ensures)
      ∙ sorted_more (slice_cmp nat_cmp) nat_list_cmp_total c.args.rows.now (c.loop-i.i - 1) c.loop-i.i (omega (arith, c.loop-i-test.true)) c.at-row.result.now c.at-row.ensures;
}
