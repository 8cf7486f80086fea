use Rattle.std.proofs.Common.{take}
use Rattle.ff_trace.specs.Printed.{number}
use Rattle.ff_printing.specs.Pieces.{Prints, each_after_blank}
use Rattle.ff_saved_rows.proofs.print.print_wins.Given as goal

abbrev pub invariant-loop-win : goal.invariant-loop-win
invariant-loop-win l = Prints l.fn.out l.out (each_after_blank (λ w. number w.0) (take l.win-index l.wins))
