use Rattle.ff_net.proofs.Taken.{take_of_set}
use Rattle.ff_net.proofs.shrinking_list.ShrinkingList.set.Goals as goal

pub returns-clause-done : goal.returns-clause-done
returns-clause-done g c = rw (c.in-Ok.ensures.done, take_of_set) (cc)
