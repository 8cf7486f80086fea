use Rattle.std.proofs.Common.{subst}
use Rattle.ff_tree.specs.Spelled.{IsWellSpelledExpr}
use Rattle.ff_browser_table.proofs.Spelled.{code_spelled}
use Rattle.ff_browser_table.proofs.tree_words.code_of.Goals as goal

pub returns : goal.returns
returns c = code_spelled c.in-Make.params c.in-Make.body (record { 0 = 0 }) (subst IsWellSpelledExpr c.in-Make.is c.requires)
