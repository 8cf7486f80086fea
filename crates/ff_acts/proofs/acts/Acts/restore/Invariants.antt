use Rattle.std.proofs.Common.{◌≡◌, ◌≤◌, take}
use Rattle.ff_machine.specs.Alone.{AreActs}
use Rattle.ff_records.specs.Records.{act_recs}
use Rattle.ff_acts.proofs.acts.Acts.restore.Given as goal

abbrev pub invariant-loop-rec : goal.invariant-loop-rec
invariant-loop-rec g l = record {
  valid : AreActs l.acts;
  recs : act_recs l.acts ≡ take l.rec-index l.recs;
  later : l.initial.copies ≤ l.copies;
}
