use Rattle.std.proofs.Common.{[], ◌∷◌, ◌++◌, length, ap, ◌∙◌, arith}
use Rattle.ff_net.proofs.Domains.{asked_past, given_nothing, apart_added, given_added, count_added}
use Rattle.ff_net.proofs.asked.put_asks.Goals as goal

pub returns-then-len-eq0-clause-done : goal.returns-then-len-eq0-clause-done
returns-then-len-eq0-clause-done g c =
    given_nothing c.args.domain.now c.args.rows.now c.args.place c.requires.place c.requires.apart (omega arith) c.args.asks (omega arith)

pub returns-then-len-eq0-clause-count : goal.returns-then-len-eq0-clause-count
returns-then-len-eq0-clause-count g c =
    omega (arith, ap length (asked_past c.args.domain.now c.args.rows.now c.args.place c.requires.place (omega arith)))

pub returns-clause-done : goal.returns-clause-done
returns-clause-done g c =
    given_added c.args.domain.now c.args.rows.now c.args.place c.requires.place c.requires.apart (omega arith) c.push.new.self c.args.asks (c.in_ok-push.ensures.done ∙ ap (λ row. c.args.rows.now ++ row ∷ []) c.in_ok-of.ensures) (omega arith)

pub returns-clause-apart : goal.returns-clause-apart
returns-clause-apart g c =
    apart_added c.args.domain.now c.args.rows.now c.args.place c.requires.place c.requires.apart (omega arith) c.push.new.self c.args.asks (c.in_ok-push.ensures.done ∙ ap (λ row. c.args.rows.now ++ row ∷ []) c.in_ok-of.ensures)

pub returns-clause-count : goal.returns-clause-count
returns-clause-count g c =
    count_added c.args.domain.now c.args.rows.now c.args.place c.requires.place c.requires.apart (omega arith) c.push.new.self c.args.asks (c.in_ok-push.ensures.done ∙ ap (λ row. c.args.rows.now ++ row ∷ []) c.in_ok-of.ensures)
