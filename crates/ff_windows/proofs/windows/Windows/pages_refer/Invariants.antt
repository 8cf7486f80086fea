use Rattle.std.proofs.Common.{take}
use Rattle.std.specs.List.{All}
use Rattle.ff_machine.specs.References.{PageRefers}
use Rattle.ff_records.specs.Counted.{made}
use Rattle.ff_windows.proofs.windows.Windows.pages_refer.Given as goal

abbrev pub invariant-loop-i : goal.invariant-loop-i
invariant-loop-i l = All (PageRefers (made l.counts)) (take l.i l.self.pages)
