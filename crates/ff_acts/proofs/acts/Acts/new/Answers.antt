use Rattle.ff_acts.proofs.Pushed.{none_held, none_seen}
use Rattle.ff_acts.proofs.acts.Acts.new.Goals as goal

pub invariant_of-result : goal.invariant_of-result
invariant_of-result c = none_held _ _ c.new.ensures c.new-2.ensures

pub returns : goal.returns
returns c = none_seen _ _ c.new.ensures
