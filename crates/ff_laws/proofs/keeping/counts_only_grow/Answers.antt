use Rattle.ff_laws.proofs.Growing.{val_grows, running_grows, stores_refer_grow, task_grows}
use Rattle.ff_laws.proofs.keeping.counts_only_grow.Goals as goal

pub returns : goal.returns
returns c = record { value = val_grows; running = running_grows; stores = stores_refer_grow; task = task_grows }
