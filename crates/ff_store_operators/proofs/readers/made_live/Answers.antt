use Rattle.ff_store_operators.proofs.Lives.{live_lives}
use Rattle.ff_store_operators.proofs.readers.made_live.Goals as goal

pub returns : goal.returns
returns c = live_lives c.args.stores.now c.windows-known.ensures.valid c.args.page c.requires
