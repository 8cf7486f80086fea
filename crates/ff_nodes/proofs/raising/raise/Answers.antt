use Rattle.std.proofs.Common.{ap, subst, sym, ◌∙◌}
use Rattle.ff_nodes.specs.declared.cell.NodeCell.{NodeCell}
use Rattle.ff_nodes.specs.Marked.{AreWithin}
use Rattle.ff_nodes.specs.Raised.{IsRaised}
use Rattle.ff_nodes.proofs.RaisedCells.{raised_written}
use Rattle.ff_nodes.proofs.raising.raise.Goals as goal

pub returns-clause-raised : goal.returns-clause-raised
returns-clause-raised g c =
    let mine = subst (λ (x : NodeCell). AreWithin x.marks c.with-more.result) c.cell_at-cell.ensures c.with-more.ensures.mine in
    subst (λ l. IsRaised c.args.cells.now l c.args.n c.args.marks) (sym c.in-Ok.ensures.done)
    (raised_written c.args.cells.now c.args.n c.args.marks c.with-more.result c.in_ok-node.node c.requires (c.in_ok-node.ensures ∙ ap (λ (x : NodeCell). x.node) c.cell_at-cell.ensures) mine c.with-more.ensures.others)
