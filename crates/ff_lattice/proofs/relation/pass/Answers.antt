use Rattle.std.proofs.Common.{◌≡◌, ℕ, ◌<◌, List, [], ◌∙◌, ap, arith, get_or}
use Rattle.std.proofs.lemmas.List.{get_or_read}
use Rattle.ff_lattice.proofs.Tables.{through, passes_from_rows}
use Rattle.ff_lattice.proofs.relation.pass.Goals as goal

pub returns : goal.returns
returns c =
    let reached : c.index-rows-middle.result ≡ get_or c.args.rows.now c.args.middle.0 [] =
    get_or_read c.args.rows.now c.args.middle.0 c.index-rows-middle.result c.requires.middle c.index-rows-middle.is [] in
    passes_from_rows c.args.rows.now c.loop-row.rows c.args.middle.0 c.requires.rows c.loop-row.auto.rows (λ j in_j.
    let done : j < c.loop-row.row-index = omega arith in
    c.loop-row.invariant.done j done ∙ ap (λ (r : List ℕ). through c.args.middle.0 r (get_or c.args.rows.now j [])) reached)
