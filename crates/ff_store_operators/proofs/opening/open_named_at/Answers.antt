use Rattle.std.proofs.Common.{sym, ◌∙◌}
use Rattle.ff_store_operators.proofs.Lives.{named_open}
use Rattle.ff_store_operators.proofs.opening.open_named_at.Goals as goal

pub go_at-requires-clause-is_open : goal.go_at-requires-clause-is_open
go_at-requires-clause-is_open g c =
    let found = rw c.windows.ensures.value at c.named.ensures in
    named_open c.args.stores.now.windows c.args.name.now c.in-Some.window (sym found ∙ c.in-Some.is)
