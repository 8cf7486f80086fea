use Rattle.ff_tree.specs.Spelled.{IsWellSpelledDoc}
use Rattle.ff_browser_table.proofs.tree_changes.many.Given as goal

-- the document is the one that was read
abbrev pub invariant-loop-tree : goal.invariant-loop-tree
invariant-loop-tree g l = IsWellSpelledDoc l.doc
