use Rattle.std.proofs.Common.{take}
use Rattle.ff_forms.specs.Canonical.{pair_item}
use Rattle.ff_printing.specs.Pieces.{Prints, each_after_blank}
use Rattle.ff_printing.proofs.print_shown_part.print_further_pairs.Given as goal

abbrev pub invariant-loop-pair : goal.invariant-loop-pair
invariant-loop-pair l = Prints l.fn.out l.out (each_after_blank pair_item (take l.pair-index l.pairs))
