use Rattle.ff_save.proofs.Same.{same_saved}
use Rattle.ff_save.proofs.law.equal_records_are_of_equal_pools.Goals as goal

pub returns : goal.returns
returns c = same_saved
