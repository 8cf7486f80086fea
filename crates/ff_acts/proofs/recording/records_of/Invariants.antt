use Rattle.std.proofs.Common.{◌≡◌, ◌+◌, take, length}
use Rattle.ff_records.specs.Records.{act_recs}
use Rattle.ff_acts.specs.Held.{seen}
use Rattle.ff_acts.specs.Recorded.{AreSorted}
use Rattle.ff_acts.proofs.recording.records_of.Given as goal

-- the records so far, and what is left to be recorded
abbrev pub invariant-loop-sorted : goal.invariant-loop-sorted
invariant-loop-sorted l = record {
  count : l.a + length l.sorted-iterator.rest.items ≡ length l.acts;
  left : AreSorted l.vars l.a l.sorted-iterator.rest.items;
  recs : l.recs.items ≡ take l.a (act_recs (seen l.acts l.vars));
}
