use Rattle.ff_core.proofs.Holding.{new_valid, at_its_own}
use Rattle.ff_core.proofs.browser.BrowserReactor.new.Goals as goal

pub invariant_of-result : goal.invariant_of-result
invariant_of-result c = at_its_own c.args.fuel c.new.result (new_valid c.args.fuel c.new.result c.new.ensures)
