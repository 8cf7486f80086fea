use Rattle.ff_store_operators.proofs.Lives.{placed}
use Rattle.ff_store_operators.proofs.readers.is_open.Goals as goal

pub returns : goal.returns
returns c = let e = placed c.args.stores.now.windows c.args.window in cc
