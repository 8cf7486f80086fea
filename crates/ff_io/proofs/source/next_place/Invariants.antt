use Rattle.std.proofs.Common.{◌≡◌, ◌-◌, drop, length}
use Rattle.ff_io.specs.Pending.{pieces_from}
use Rattle.ff_io.proofs.source.next_place.Given as goal

abbrev pub invariant-loop-at : goal.invariant-loop-at
invariant-loop-at l = pieces_from (drop l.at l.pieces) l.offset ≡ pieces_from (drop l.fn.at l.pieces) l.fn.offset

abbrev pub decreases-loop-at : goal.decreases-loop-at
decreases-loop-at l = length l.pieces - l.at
