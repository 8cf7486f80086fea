use Rattle.std.proofs.Common.{◌≡◌, ◌+◌, take}
use Rattle.ff_cow.proofs.leaf.LeafWritable.duplicate.Given as goal

abbrev pub invariant-loop-cell : goal.invariant-loop-cell
invariant-loop-cell g l = record {
  copied : l.cells.items ≡ take l.cell-index l.cell-items;
  counted : l.copies ≡ l.initial.copies + l.cell-index;
}
