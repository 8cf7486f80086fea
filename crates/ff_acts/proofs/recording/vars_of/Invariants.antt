use Rattle.std.proofs.Common.{◌≡◌, map}
use Rattle.ff_records.specs.Records.{variable}
use Rattle.ff_acts.proofs.recording.vars_of.Given as goal

abbrev pub invariant-loop-name : goal.invariant-loop-name
invariant-loop-name l = l.vars.items ≡ map variable l.yielded
