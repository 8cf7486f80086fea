use Rattle.std.proofs.Common.{◌≡◌, ◌<◌, None, List, length, sym, subst, ◌∙◌}
use Rattle.std.proofs.lemmas.Bool.{false≢true}
use Rattle.ff_machine.specs.Nodes.{Node, by_name}
use Rattle.ff_nodes.specs.Cells.{nodes_of}
use Rattle.ff_nodes.proofs.Lacking.{nameless}
use Rattle.ff_nodes.proofs.nodes.Nodes.by_name.Goals as goal

pub returns-then-not-is_name : goal.returns-then-not-is_name
returns-then-not-is_name c =
    let cells = c.self.inside.cells in
    let lives : c.args.root.0 < length (nodes_of cells) = subst (λ (ns : List Node). c.args.root.0 < length ns) (sym c.self.view_is) c.requires in
    sym (subst (λ (ns : List Node). by_name ns c.args.root c.args.name.now ≡ None) c.self.view_is (nameless cells c.self.invariant c.args.root c.args.name.now lives (λ is. false≢true (sym c.if-not-is_name.true ∙ c.is_name.ensures.1 is))))
