use Rattle.std.proofs.Common.{length}
use Rattle.ff_acts.specs.Held.{top_of}
use Rattle.ff_acts.proofs.Ahead.{IsAhead, cells_ahead}
use Rattle.ff_acts.proofs.searching.search.Given as goal

-- the search has come to this place
abbrev pub invariant-loop-link : goal.invariant-loop-link
invariant-loop-link l = IsAhead (top_of l.acts l.a) l.vars l.a l.name l.place l.link l.rest

abbrev pub decreases-loop-link : goal.decreases-loop-link
decreases-loop-link l = cells_ahead (length l.vars) l.link
