use Rattle.std.proofs.Common.{◌≡◌, ℕ, List, [], get_or, sym, below_more, arith}
use Rattle.std.proofs.lemmas.Option.{get_or_from_slice_get}
use Rattle.std.proofs.lemmas.List.Sums.{position_or_len_is}
use Rattle.ff_net.specs.Cookies.{is_at}
use Rattle.ff_net.proofs.cookie.place_of.Goals as goal

pub returns-then-is_at : goal.returns-then-is_at
returns-then-is_at c =
    let d : (List ℕ × List ℕ) × List ℕ = (([], []), []) in
    let here : get_or c.args.cookies.now c.loop-i.i d ≡ c.at.result.now = get_or_from_slice_get c.args.cookies.now c.loop-i.i c.at.result.now d c.at.ensures in
    sym (position_or_len_is (is_at c.args.domain.now c.args.key.now) c.args.cookies.now c.loop-i.i d (omega arith) c.loop-i.invariant (λ h. cc))

pub loop-i-preserved : goal.loop-i-preserved
loop-i-preserved c =
    let d : (List ℕ × List ℕ) × List ℕ = (([], []), []) in
    let here : get_or c.args.cookies.now c.loop-i.i d ≡ c.at.result.now = get_or_from_slice_get c.args.cookies.now c.loop-i.i c.at.result.now d c.at.ensures in
    below_more _ _ c.loop-i.invariant (cc)

pub returns : goal.returns
returns c =
    let d : (List ℕ × List ℕ) × List ℕ = (([], []), []) in
    sym (position_or_len_is (is_at c.args.domain.now c.args.key.now) c.args.cookies.now c.len.result d (omega arith) (λ k h. c.loop-i.invariant k (omega arith)) (λ h. absurd (omega arith)))
