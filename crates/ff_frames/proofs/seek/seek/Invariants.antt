use Rattle.std.specs.List.{AllByRecursion}
use Rattle.std.proofs.Common.{◌+◌}
use Rattle.ff_frames.specs.Frames.{shown}
use Rattle.ff_frames.specs.Heads.{IsFit, IsLaid, at_hand, frames}
use Rattle.ff_frames.specs.Loads.{load, loads}
use Rattle.ff_frames.specs.Seeking.{Alike, IsSettled}
use Rattle.ff_frames.proofs.seek.seek.Given as goal

abbrev pub invariant-loop : goal.invariant-loop
invariant-loop l =
    IsLaid l.heads.items l.hand
    × AllByRecursion IsFit l.heads.items
    × Alike (frames l.initial.heads.items l.initial.hand) (shown (at_hand l.initial.heads.items l.initial.hand)) (frames l.heads.items l.hand) (shown (at_hand l.heads.items l.hand))
    × IsSettled (at_hand l.heads.items l.hand)

abbrev pub decreases-loop : goal.decreases-loop
decreases-loop l = loads (frames l.heads.items l.hand) + load (at_hand l.heads.items l.hand)
