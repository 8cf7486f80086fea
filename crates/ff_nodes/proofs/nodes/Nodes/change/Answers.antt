use Rattle.ff_nodes.proofs.CellChanges.{changed, changed_nodes}
use Rattle.ff_nodes.proofs.nodes.Nodes.change.Goals as goal

pub invariant_of-self-2 : goal.invariant_of-self-2
invariant_of-self-2 g c =
    changed (g.E.Edit.edited c.args.edit) c.self.inside.cells c.edit.new.self c.args.self.now c.self.view_is c.args.n c.requires.lives c.in-Ok.ensures.done c.self.invariant c.requires.valid c.requires.children c.requires.parent c.requires.kind c.requires.name

pub returns-clause-done : goal.returns-clause-done
returns-clause-done g c =
    changed_nodes (g.E.Edit.edited c.args.edit) c.self.inside.cells c.edit.new.self c.args.self.now c.self.view_is c.args.n c.requires.lives c.in-Ok.ensures.done
