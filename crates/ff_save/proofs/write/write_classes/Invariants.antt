use Rattle.std.proofs.Common.{◌≤◌, flat_map}
use Rattle.ff_lattice.specs.Order.{size}
use Rattle.ff_printing.specs.Pieces.{Prints}
use Rattle.ff_contract.specs.Lists.{below}
use Rattle.ff_saved_rows.specs.Rows.{rows_text}
use Rattle.ff_save.specs.LevelByLevel.{level_rows}
use Rattle.ff_save.proofs.write.write_classes.Given as goal

abbrev pub invariant-loop-number : goal.invariant-loop-number
invariant-loop-number g l = (l.number ≤ size l.policy.order) × Prints l.fn.out l.out (rows_text l.policy.order (flat_map (level_rows l.pool) (below l.number)))
