use Rattle.std.proofs.Common.{◌≡◌, ◌<◌, None, List, length, sym, subst, ap, ◌∙◌}
use Rattle.std.specs.Int.{bit_at}
use Rattle.std.proofs.lemmas.Option.{get_or_from_slice_get}
use Rattle.ff_machine.specs.Nodes.{Node, by_name}
use Rattle.ff_nodes.specs.declared.cell.NodeCell.{NodeCell}
use Rattle.ff_nodes.specs.Cells.{nodes_of, cell_at, no_cell}
use Rattle.ff_nodes.proofs.Lacking.{no_name, not_both}
use Rattle.ff_nodes.proofs.nodes.Nodes.lacks_name.Goals as goal

pub returns : goal.returns
returns c unset name bit =
    let cells = c.self.inside.cells in
    let cell : cell_at cells c.args.root ≡ c.in-Some.cell.now = get_or_from_slice_get cells c.args.root.0 c.in-Some.cell.now no_cell (sym c.in-Some.ensures) in
    let lives : c.args.root.0 < length (nodes_of cells) = subst (λ (ns : List Node). c.args.root.0 < length ns) (sym c.self.view_is) c.requires.lives in
    subst (λ (ns : List Node). by_name ns c.args.root name ≡ None) c.self.view_is (no_name cells c.self.invariant c.args.root name lives (λ set. not_both _ (c.may_have_name.ensures.1 (sym (ap (λ (k : NodeCell). bit_at k.marks.names c.args.bit) cell) ∙ ap (bit_at (cell_at cells c.args.root).marks.names) bit ∙ set)) unset))
