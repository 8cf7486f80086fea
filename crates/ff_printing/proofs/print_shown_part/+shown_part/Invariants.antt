use Rattle.std.proofs.Common.{take}
use Rattle.ff_forms.specs.Canonical.{shown_part_item}
use Rattle.ff_printing.specs.Pieces.{Prints, each_after_blank}
use Rattle.ff_printing.proofs.print_shown_part.+shown_part.Given as goal

abbrev pub invariant-print_parts-loop-part : goal.invariant-print_parts-loop-part
invariant-print_parts-loop-part l = Prints l.fn.out l.out (each_after_blank shown_part_item (take l.part-index l.parts))
