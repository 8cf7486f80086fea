use Rattle.std.proofs.Common.{◌∷◌, ◌++◌, map, flat_map}
use Rattle.ff_printing.proofs.Printing.{then}
use Rattle.ff_records.specs.Records.{act_recs, node_recs, page_rec, win_rec, cookie_recs, ask_recs}
use Rattle.ff_saved_rows.specs.Rows.{act_rows, node_rows, page_rows}
use Rattle.ff_saved_rows.specs.declared.row.Row.TheVariants as row
use Rattle.ff_save.proofs.RowByRow.{rows_then}
use Rattle.ff_save.proofs.writing_stores.put_stores.Goals as goal

pub returns : goal.returns
returns c = λ order.
    let s = c.args.stores.now in
    let asks = map row.Ask (ask_recs s.requests) in
    let last = map row.Cookie (cookie_recs s.jar) ++ asks in
    let wins = map row.Win (map win_rec s.windows.windows) ++ (row.Open s.windows.opened ∷ last) in
    let pages = flat_map page_rows (map page_rec s.windows.pages) ++ wins in
    let nodes = flat_map node_rows (node_recs s.nodes) ++ pages in
    then (rw c.mass.ensures.value at c.put_mass.ensures order)
    (rows_then order (flat_map act_rows (act_recs s.windows.acts)) nodes (rw c.windows.ensures.value at c.write_acts.ensures order)
    (rows_then order (flat_map node_rows (node_recs s.nodes)) pages (rw c.nodes.ensures.value at c.write_nodes.ensures order)
    (rows_then order (flat_map page_rows (map page_rec s.windows.pages)) wins (rw c.windows-2.ensures.value at c.write_pages.ensures order)
    (rows_then order (map row.Win (map win_rec s.windows.windows)) (row.Open s.windows.opened ∷ last) (rw c.windows-3.ensures.value at c.write_wins.ensures order)
    (then (rw c.windows-4.ensures.value at c.write_open.ensures order)
    (rows_then order (map row.Cookie (cookie_recs s.jar)) asks (rw c.jar.ensures.value at c.write_cookies.ensures order) (rw c.requests.ensures.value at c.write_asks.ensures order)))))))
