use Rattle.ff_policy.proofs.Unique.{accepts_from, only_from}
use Rattle.ff_policy.proofs.policy.Policy.read.Goals as goal

pub returns-clause-only : goal.returns-clause-only
returns-clause-only c = accepts_from c.args.bytes.now c.first_read.result c.first_read.ensures.found c.first_read.ensures.fault

pub returns-clause-exact : goal.returns-clause-exact
returns-clause-exact c = only_from c.args.bytes.now c.first_read.result c.first_read.ensures.found c.first_read.ensures.fault
