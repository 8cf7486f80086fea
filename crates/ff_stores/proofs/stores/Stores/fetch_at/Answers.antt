use Rattle.std.proofs.Common.{rules}
use Rattle.ff_laws.proofs.Starting.{null_spelled}
use Rattle.ff_stores.proofs.stores.Stores.fetch_at.Goals as goal

pub queue-requires-clause-spelled : goal.queue-requires-clause-spelled
queue-requires-clause-spelled g c = search (rules, null_spelled)
