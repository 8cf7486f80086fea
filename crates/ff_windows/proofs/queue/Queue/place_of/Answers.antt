use Rattle.std.proofs.Common.{◌≡◌, get_or, sym, below_more, arith}
use Rattle.std.proofs.lemmas.Option.{get_or_from_slice_get}
use Rattle.std.proofs.lemmas.List.Sums.{position_or_len_is}
use Rattle.ff_machine.specs.declared.records.Entry.TheVariants.{Wait}
use Rattle.ff_machine.specs.Windows.{is_slot}
use Rattle.ff_windows.proofs.queue.Queue.place_of.Goals as goal

pub returns-then-waits_at : goal.returns-then-waits_at
returns-then-waits_at c =
    let here : get_or c.args.self.now c.loop-i.i (Wait 0) ≡ c.at.result.now = get_or_from_slice_get c.args.self.now c.loop-i.i c.at.result.now (Wait 0) c.at.ensures in
    sym (position_or_len_is (is_slot c.args.slot) c.args.self.now c.loop-i.i (Wait 0) (omega arith) c.loop-i.invariant (λ h. cc))

pub loop-i-preserved : goal.loop-i-preserved
loop-i-preserved c =
    let here : get_or c.args.self.now c.loop-i.i (Wait 0) ≡ c.at.result.now = get_or_from_slice_get c.args.self.now c.loop-i.i c.at.result.now (Wait 0) c.at.ensures in
    below_more _ _ c.loop-i.invariant (cc)

pub returns : goal.returns
returns c = sym (position_or_len_is (is_slot c.args.slot) c.args.self.now c.len.result (Wait 0) (omega arith) (λ k h. c.loop-i.invariant k (omega arith)) (λ h. absurd (omega arith)))
