use Rattle.std.proofs.Common.{◌≡◌, [], ◌∷◌, ◌++◌, length, sym, ap, ◌∙◌, arith}
use Rattle.std.specs.FinMap as finmap
use Rattle.std.proofs.lemmas.List.{length_push}
use Rattle.ff_machine.specs.Net as net
use Rattle.ff_net.proofs.Domains.{given_some}
use Rattle.ff_net.proofs.asked.put_ask.Goals as goal

pub returns-clause-done : goal.returns-clause-done
returns-clause-done g c =
    let old = finmap.from_entries c.args.rows.now in
    let asked = net.asked old c.args.domain.now in
    let more : c.push.new.self ≡ asked ++ c.args.pending ∷ [] =
    c.in_ok-push.ensures.done ∙ ap (λ l. l ++ c.of.result ∷ []) c.in_ok-asks.ensures.equal ∙ ap (λ p. asked ++ p ∷ []) c.of.ensures in
    c.in_ok-put_asks.ensures.done ∙ ap (net.with_asked old c.args.domain.now) more
    ∙ sym (given_some old c.args.domain.now (asked ++ c.args.pending ∷ []) (omega (arith, length_push asked c.args.pending)))

pub returns-clause-count : goal.returns-clause-count
returns-clause-count g c =
    omega (arith, c.in_ok-put_asks.ensures.count, ap length c.in_ok-push.ensures.done, length_push c.in_ok-asks.asks c.of.result, ap length c.in_ok-asks.ensures.equal)
