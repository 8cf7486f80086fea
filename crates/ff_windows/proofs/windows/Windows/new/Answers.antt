use Rattle.ff_machine.proofs.Empty.{empty_windows}
use Rattle.ff_windows.proofs.windows.Windows.new.Goals as goal

pub invariant_of-result : goal.invariant_of-result
invariant_of-result c = rw (c.new.ensures, c.new-2.ensures.items, c.new-3.ensures, c.new-4.ensures) empty_windows
