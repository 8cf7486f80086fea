use Rattle.std.proofs.Common.{◌-◌, length}
use Rattle.ff_stores.proofs.Updating.{IsUpdating}
use Rattle.ff_stores.proofs.stores.Stores.put_updates.Given as goal

-- what the windows before this place show is put
abbrev pub invariant-loop-at : goal.invariant-loop-at
invariant-loop-at l = IsUpdating l.self l.initial.outs.items l.at l.outs.items

abbrev pub decreases-loop-at : goal.decreases-loop-at
decreases-loop-at l = length l.self.windows.opened - l.at
