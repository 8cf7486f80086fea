use Rattle.ff_forms.specs.Canonical.{pair_item}
use Rattle.ff_printing.proofs.Printing.{one_more, blank_then}
use Rattle.ff_printing.proofs.print_shown_part.print_further_pairs.Goals as goal

pub loop-pair-preserved : goal.loop-pair-preserved
loop-pair-preserved c = one_more pair_item c.args.pairs.now c.loop-pair.pair-index c.pair-item.result c.loop-pair-test.true c.pair-item.is c.loop-pair.invariant (blank_then (pair_item c.pair-item.result) c.bytes.ensures c.print_pair.ensures)
