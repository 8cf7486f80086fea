use Rattle.ff_saved_rows.proofs.Each.{SetBefore}
use Rattle.ff_saved_rows.proofs.parts.read_levels.Given as goal

abbrev pub invariant-loop-item : goal.invariant-loop-item
invariant-loop-item l = SetBefore l.lattice l.items l.item-index l.levels
