use Rattle.std.proofs.Common.{◌≡◌, ℕ, List, [], get_or, sym, below_more, arith}
use Rattle.std.proofs.lemmas.Option.{get_or_from_slice_get}
use Rattle.std.proofs.lemmas.List.Sums.{position_or_len_is}
use Rattle.ff_machine.specs.declared.records.Pending.{Pending}
use Rattle.ff_net.specs.Asks.{is_to}
use Rattle.ff_net.proofs.asked.place_to.Goals as goal

pub returns-then-is_to : goal.returns-then-is_to
returns-then-is_to c =
    let d : List ℕ × List Pending = ([], []) in
    let here : get_or c.args.rows.now c.loop-i.i d ≡ c.at.result.now = get_or_from_slice_get c.args.rows.now c.loop-i.i c.at.result.now d c.at.ensures in
    sym (position_or_len_is (is_to c.args.domain.now) c.args.rows.now c.loop-i.i d (omega arith) c.loop-i.invariant (λ h. cc))

pub loop-i-preserved : goal.loop-i-preserved
loop-i-preserved c =
    let d : List ℕ × List Pending = ([], []) in
    let here : get_or c.args.rows.now c.loop-i.i d ≡ c.at.result.now = get_or_from_slice_get c.args.rows.now c.loop-i.i c.at.result.now d c.at.ensures in
    below_more _ _ c.loop-i.invariant (cc)

pub returns : goal.returns
returns c =
    let d : List ℕ × List Pending = ([], []) in
    sym (position_or_len_is (is_to c.args.domain.now) c.args.rows.now c.len.result d (omega arith) (λ k h. c.loop-i.invariant k (omega arith)) (λ h. absurd (omega arith)))
