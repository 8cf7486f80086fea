use Rattle.std.proofs.Common.{map}
use Rattle.ff_forms.specs.Canonical.{shown_part_item}
use Rattle.ff_printing.proofs.Printing.{listed, ended, one_more, blank_then}
use Rattle.ff_printing.proofs.print_shown_part.+shown_part.Goals as goal

pub print_list-returns : goal.print_list-returns
print_list-returns t c = listed c.args.head.now (map shown_part_item c.args.parts.now) c.open_list.ensures (ended shown_part_item c.args.parts.now c.print_parts.ensures c.close_list.ensures)

pub print_parts-loop-part-preserved : goal.print_parts-loop-part-preserved
print_parts-loop-part-preserved t c = one_more shown_part_item c.args.parts.now c.loop-part.part-index c.part-item.result c.loop-part-test.true c.part-item.is c.loop-part.invariant (blank_then (shown_part_item c.part-item.result) c.bytes.ensures c.print_shown_part.ensures)
