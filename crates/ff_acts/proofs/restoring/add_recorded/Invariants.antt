use Rattle.std.proofs.Common.{◌≡◌, ◌≤◌, ◌∷◌, ◌++◌, [], take}
use Rattle.ff_machine.specs.Alone.{AreActs}
use Rattle.ff_records.specs.Records.{act_recs}
use Rattle.ff_acts.proofs.restoring.add_recorded.Given as goal

-- the record so far is that of the last activation
abbrev pub invariant-loop-variable : goal.invariant-loop-variable
invariant-loop-variable g l = record {
  valid : AreActs l.acts;
  recs : act_recs l.acts ≡ act_recs l.fn.acts ++ record { parent = l.rec.parent; vars = take l.variable-index l.rec.vars } ∷ [];
  later : l.fn.copies ≤ l.copies;
}
