use Rattle.std.proofs.Common.{Some, length, sym, ap, ◌∙◌, arith}
use Rattle.std.specs.FinMap as finmap
use Rattle.std.specs.List.{slice_get, remove}
use Rattle.std.proofs.lemmas.List.Edits.{length-remove}
use Rattle.ff_machine.specs.Net as net
use Rattle.ff_net.proofs.asked.take_ask.Goals as goal

pub returns-clause-value : goal.returns-clause-value
returns-clause-value g c =
    ap (λ l. slice_get l c.args.k) (sym c.in_ok-asks.ensures.equal) ∙ c.at.ensures ∙ ap Some (sym (c.in_ok-pending.ensures ∙ c.pending.ensures))

pub returns-clause-done : goal.returns-clause-done
returns-clause-done g c =
    c.in_ok-put_asks.ensures.done
    ∙ ap (net.with_asked (finmap.from_entries c.args.rows.now) c.args.domain.now) (c.in_ok-remove.ensures.done ∙ ap (λ l. remove l c.args.k) c.in_ok-asks.ensures.equal)

pub returns-clause-count : goal.returns-clause-count
returns-clause-count g c =
    omega (arith, c.in_ok-put_asks.ensures.count, ap length (c.in_ok-remove.ensures.done ∙ ap (λ l. remove l c.args.k) c.in_ok-asks.ensures.equal), length-remove (net.asked (finmap.from_entries c.args.rows.now) c.args.domain.now) c.args.k c.requires.there)
