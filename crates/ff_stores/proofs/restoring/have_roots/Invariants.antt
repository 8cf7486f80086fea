use Rattle.std.proofs.Common.{◌≡◌, ◌<◌}
use Rattle.ff_value.specs.declared.ids.PageId.{PageId}
use Rattle.ff_machine.specs.declared.records.Shape.TheVariants as shape
use Rattle.ff_machine.specs.Nodes.{node_at}
use Rattle.ff_machine.specs.Windows.{nth_page}
use Rattle.ff_stores.proofs.restoring.have_roots.Given as goal

abbrev pub invariant-loop-p : goal.invariant-loop-p
invariant-loop-p l = (p : PageId) → p.0 < l.p → (node_at l.nodes (nth_page l.windows.pages p).root).shape ≡ shape.Page p
