use Rattle.std.proofs.Common.{◌≡◌, false, nat_eq, map, take}
use Rattle.std.specs.List.{list_any}
use Rattle.ff_windows.proofs.checking.is_among.Given as goal

abbrev pub invariant-loop-other : goal.invariant-loop-other
invariant-loop-other l = list_any (nat_eq l.win.0) (map (λ w. w.0) (take l.other-index l.others)) ≡ false
