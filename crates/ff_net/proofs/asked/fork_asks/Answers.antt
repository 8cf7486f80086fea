use Rattle.std.proofs.Common.{sym, ◌∙◌, arith}
use Rattle.ff_net.proofs.Domains.{asked_past, asked_at}
use Rattle.ff_net.proofs.asked.fork_asks.Goals as goal

pub returns-then-place-len-clause-equal : goal.returns-then-place-len-clause-equal
returns-then-place-len-clause-equal g c =
    c.new.ensures ∙ sym (asked_past c.args.domain.now c.args.rows.now c.args.place c.requires (omega arith))

pub returns-clause-equal : goal.returns-clause-equal
returns-clause-equal g c =
    c.in_ok-asks.ensures.equal ∙ c.asks.ensures
    ∙ sym (asked_at c.args.domain.now c.args.rows.now c.args.place c.requires c.at.result.now c.at.ensures)
