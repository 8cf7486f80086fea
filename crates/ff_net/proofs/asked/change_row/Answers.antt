use Rattle.std.proofs.Common.{[], set, ap, ◌∙◌, arith}
use Rattle.std.proofs.lemmas.Option.{slice_get-get_or}
use Rattle.ff_net.proofs.Domains.{apart_written, given_written, count_written, apart_dropped, given_dropped, count_dropped}
use Rattle.ff_net.proofs.asked.change_row.Goals as goal

pub returns-then-len-eq0-clause-done : goal.returns-then-len-eq0-clause-done
returns-then-len-eq0-clause-done g c =
    let there = slice_get-get_or c.args.rows.now c.args.place ([], []) c.requires.within in
    given_dropped c.args.domain.now c.args.rows.now c.args.place c.requires.place _ there c.requires.apart c.swap_remove.new.self c.args.asks (omega arith) c.in_ok-swap_remove.ensures.done

pub returns-then-len-eq0-clause-apart : goal.returns-then-len-eq0-clause-apart
returns-then-len-eq0-clause-apart g c =
    let there = slice_get-get_or c.args.rows.now c.args.place ([], []) c.requires.within in
    apart_dropped c.args.domain.now c.args.rows.now c.args.place c.requires.place _ there c.requires.apart c.swap_remove.new.self c.args.asks (omega arith) c.in_ok-swap_remove.ensures.done

pub returns-then-len-eq0-clause-count : goal.returns-then-len-eq0-clause-count
returns-then-len-eq0-clause-count g c =
    let there = slice_get-get_or c.args.rows.now c.args.place ([], []) c.requires.within in
    count_dropped c.args.domain.now c.args.rows.now c.args.place c.requires.place _ there c.requires.apart c.swap_remove.new.self c.args.asks (omega arith) c.in_ok-swap_remove.ensures.done

pub returns-clause-done : goal.returns-clause-done
returns-clause-done g c =
    let there = slice_get-get_or c.args.rows.now c.args.place ([], []) c.requires.within in
    given_written c.args.domain.now c.args.rows.now c.args.place c.requires.place _ there c.requires.apart c.set.new.self c.args.asks (c.in_ok-set.ensures.done ∙ ap (set c.args.rows.now c.args.place) c.in_ok-of.ensures) (omega arith)

pub returns-clause-apart : goal.returns-clause-apart
returns-clause-apart g c =
    let there = slice_get-get_or c.args.rows.now c.args.place ([], []) c.requires.within in
    apart_written c.args.domain.now c.args.rows.now c.args.place c.requires.place _ there c.requires.apart c.set.new.self c.args.asks (c.in_ok-set.ensures.done ∙ ap (set c.args.rows.now c.args.place) c.in_ok-of.ensures)

pub returns-clause-count : goal.returns-clause-count
returns-clause-count g c =
    let there = slice_get-get_or c.args.rows.now c.args.place ([], []) c.requires.within in
    count_written c.args.domain.now c.args.rows.now c.args.place c.requires.place _ there c.requires.apart c.set.new.self c.args.asks (c.in_ok-set.ensures.done ∙ ap (set c.args.rows.now c.args.place) c.in_ok-of.ensures)
