use Rattle.std.proofs.lemmas.Result.{on_ok_weaker}
use Rattle.ff_copies_table.proofs.auditing.hear.Goals as goal

pub returns-in-Some : goal.returns-in-Some
returns-in-Some g c = on_ok_weaker c.feed.result (λ both. both.1) c.feed.ensures.unspent
