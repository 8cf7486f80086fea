use Rattle.std.proofs.Common.{◌≡◌, ◌<◌}
use Rattle.ff_value.specs.declared.ids.NodeId.{NodeId}
use Rattle.ff_value.specs.declared.ids.PageId.{PageId}
use Rattle.ff_machine.specs.declared.records.Shape.TheVariants as shape
use Rattle.ff_machine.specs.Nodes.{node_at}
use Rattle.ff_machine.specs.Windows.{nth_page}
use Rattle.ff_stores.proofs.restoring.are_roots.Given as goal

abbrev pub invariant-loop-n : goal.invariant-loop-n
invariant-loop-n l = (n : NodeId) (p : PageId) → n.0 < l.n → (node_at l.nodes n).shape ≡ shape.Page p → (nth_page l.windows.pages p).root ≡ n
