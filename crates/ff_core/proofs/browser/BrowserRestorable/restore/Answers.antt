use Rattle.ff_restorable.proofs.Rested.{resting_valid}
use Rattle.ff_core.proofs.Holding.{at_its_own}
use Rattle.ff_core.proofs.browser.BrowserRestorable.restore.Goals as goal

pub invariant_of-result : goal.invariant_of-result
invariant_of-result c = at_its_own c.args.fuel c.resting.result (resting_valid c.args.fuel c.args.stores c.resting.result c.nodes-known.ensures.valid c.requires.untouched c.resting.ensures)
