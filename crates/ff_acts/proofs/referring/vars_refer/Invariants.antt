use Rattle.std.proofs.Common.{take}
use Rattle.std.specs.List.{All}
use Rattle.ff_machine.specs.References.{ValRefers}
use Rattle.ff_records.specs.Counted.{made}
use Rattle.ff_acts.proofs.referring.vars_refer.Given as goal

abbrev pub invariant-loop-i : goal.invariant-loop-i
invariant-loop-i l = All (λ cell. ValRefers (made l.counts) cell.value) (take l.i l.vars)
