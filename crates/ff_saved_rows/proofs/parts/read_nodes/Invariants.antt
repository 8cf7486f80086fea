use Rattle.ff_saved_rows.specs.Reading.{node_in}
use Rattle.ff_saved_rows.proofs.Each.{Before}
use Rattle.ff_saved_rows.proofs.parts.read_nodes.Given as goal

abbrev pub invariant-loop-item : goal.invariant-loop-item
invariant-loop-item l = Before node_in l.items l.item-index l.nodes.items
