use Rattle.std.proofs.Common.{filter}
use Rattle.ff_forms.specs.Canonical.{word}
use Rattle.ff_lattice.specs.LevelSet.{has, below}
use Rattle.ff_lattice.specs.Order.{name}
use Rattle.ff_printing.specs.Pieces.{Prints, each_after_blank}
use Rattle.ff_saved_rows.proofs.print.print_levels.Given as goal

abbrev pub invariant-loop-number : goal.invariant-loop-number
invariant-loop-number l = Prints l.fn.out l.out (each_after_blank (λ k. word (name l.lattice k)) (filter (has l.levels) (below l.number)))
