use Rattle.ff_writing.proofs.Checking.{names_next}
use Rattle.ff_writing.proofs.listing.print_names_below.Goals as goal

pub loop-number-preserved : goal.loop-number-preserved
loop-number-preserved c = names_next c.args.lattice.now c.args.level.0 c.args.text.now.items c.loop-number.text.items c.print_if_below.new.text.items c.loop-number.number c.loop-number.invariant c.in_ok-print_if_below.ensures
