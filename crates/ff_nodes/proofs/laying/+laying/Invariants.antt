use Rattle.std.proofs.Common.{◌≡◌, ◌+◌, ◌*◌, ◌≤◌, Some, map, take, length}
use Rattle.ff_machine.specs.Documents.{laid, lay_all, numbers, size_of}
use Rattle.ff_nodes.specs.Laying.{AreNew}
use Rattle.ff_nodes.proofs.laying.+laying.Given as goal

-- the documents before this place are laid
abbrev pub invariant-lay_each-loop-doc : goal.invariant-lay_each-loop-doc
invariant-lay_each-loop-doc g l = record {
  new : AreNew l.fn.cells l.cells (lay_all (map (laid l.env) (take l.doc-index l.docs)) (length l.fn.cells) (Some l.under));
  ids : l.ids.items ≡ numbers (map (laid l.env) (take l.doc-index l.docs)) (length l.fn.cells);
  count : length l.cells ≡ length l.fn.cells + size_of (map (laid l.env) (take l.doc-index l.docs));
  later : l.fn.copies ≤ l.copies;
  copies : l.copies ≤ l.fn.copies + 31 * size_of (map (laid l.env) (take l.doc-index l.docs));
}
