use Rattle.std.proofs.Common.{◌≡◌, ℕ, List, ◌+◌, ◌-◌, ◌≤◌, cond, vec_len}
use Rattle.ff_io.proofs.Fetching.{IsFetching, IsAsking}
use Rattle.ff_io.specs.declared.fetch.TheConstants.{MOST_FETCH_BYTES}
use Rattle.ff_io.proofs.fetch.fetch_front.Given as goal

abbrev pub invariant-loop-ended : goal.invariant-loop-ended
invariant-loop-ended g l = record {
  fetching : IsFetching (g.S.Shelf.files l.fn.shelf) l.name l.limit l.bytes.items l.ended;
  asking : IsAsking l.name l.limit (g.S.Shelf.fetches l.fn.shelf) (g.S.Shelf.fetches l.shelf) l.bytes.items l.ended;
  chunk : vec_len l.chunk ≡ MOST_FETCH_BYTES;
  files : g.S.Shelf.files l.shelf ≡ g.S.Shelf.files l.fn.shelf;
  unfailed : (other : List ℕ) → g.S.Shelf.faults l.shelf other ≡ g.S.Shelf.faults l.fn.shelf other;
  later : (other : List ℕ) → g.S.Shelf.faults l.fn.shelf other ≤ g.S.Shelf.faults l.shelf other;
}

abbrev pub decreases-loop-ended : goal.decreases-loop-ended
decreases-loop-ended g l = cond l.ended 0 (l.limit + 1 - vec_len l.bytes)
