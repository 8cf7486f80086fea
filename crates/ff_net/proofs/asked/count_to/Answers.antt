use Rattle.std.proofs.Common.{length, sym, ap, arith}
use Rattle.ff_net.proofs.Domains.{asked_past, asked_at}
use Rattle.ff_net.proofs.asked.count_to.Goals as goal

pub returns-then-place-len : goal.returns-then-place-len
returns-then-place-len c =
    let is = ap length (asked_at c.args.domain.now c.args.rows.now c.place_to-place.result c.place_to-place.ensures c.at.result.now c.at.ensures) in
    cc

pub returns-else-place-len : goal.returns-else-place-len
returns-else-place-len c =
    sym (ap length (asked_past c.args.domain.now c.args.rows.now c.place_to-place.result c.place_to-place.ensures (omega arith)))
