use Rattle.std.proofs.Common.{arith, ℕ, List, [], get_or, ◌≡◌}
use Rattle.std.proofs.lemmas.Option.{get_or_from_slice_get}
use Rattle.std.proofs.lemmas.List.Sums.{count_by_more_yes, count_by_more_no}
use Rattle.ff_net.specs.Cookies.{is_of}
use Rattle.ff_net.proofs.cookie.count_of.Goals as goal
use Rattle.ff_net.proofs.cookie.count_of.Goals.{then-is_of, else-is_of}

pub loop-i-preserved : goal.loop-i-preserved
loop-i-preserved c =
    let d : (List ℕ × List ℕ) × List ℕ = (([], []), []) in
    let p = is_of c.args.domain.now in
    let here : get_or c.args.cookies.now c.loop-i.i d ≡ c.at.result.now = get_or_from_slice_get c.args.cookies.now c.loop-i.i c.at.result.now d c.at.ensures in
    elim c.if-is_of.branch [
      | then-is_of w ↦ let more = count_by_more_yes p c.args.cookies.now c.loop-i.i d (omega arith) (cc) in (omega arith, omega arith)
      | else-is_of w ↦ let more = count_by_more_no p c.args.cookies.now c.loop-i.i d (omega arith) (cc) in (omega arith, omega arith)
    ]
