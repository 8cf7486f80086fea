use Rattle.std.proofs.Common.{cond, [], ◌∷◌, ◌++◌, map, ap}
use Rattle.std.proofs.lemmas.List.Concat.{flat_map-append}
use Rattle.ff_machine.specs.Shapes.{may_have_children}
use Rattle.ff_printing.proofs.Printing.{then, prints_as}
use Rattle.ff_saved_rows.specs.Rows.{row_line, rows_text, node_rows}
use Rattle.ff_saved_rows.specs.declared.row.Row.TheVariants as row
use Rattle.ff_saved_rows.proofs.lines.put_node.Goals as goal

pub returns : goal.returns
returns c = λ order.
    let rec = c.args.rec.now in
    let kids = cond (may_have_children rec.shape) (row.Kids rec.kids ∷ []) [] in
    prints_as (rows_text order (node_rows rec))
    (ap (λ bs. row_line order (row.Node rec.shape) ++ bs) (flat_map-append (row_line order) (map row.On rec.on) kids))
    (then (then c.print_node.ensures c.bytes.ensures) (then (rw c.as_slice.ensures at c.put_handlers.ensures order) (c.put_kids.ensures order)))
