use Rattle.std.proofs.Common.{◌<◌, nat_eq, map, take}
use Rattle.std.specs.List.{All, IsDistinct}
use Rattle.ff_windows.proofs.checking.are_open.Given as goal

abbrev pub invariant-loop-i : goal.invariant-loop-i
invariant-loop-i l = record {
  there : All (λ w. w.0 < l.wins) (take l.i l.opened);
  differ : IsDistinct nat_eq (map (λ w. w.0) (take l.i l.opened));
}
