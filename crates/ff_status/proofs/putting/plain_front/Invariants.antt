use Rattle.std.proofs.Common.{◌≡◌, ◌≤◌, ◌-◌, flat_map, length, take}
use Rattle.ff_text.specs.Printed.{spelled_byte}
use Rattle.ff_status.proofs.putting.plain_front.Given as goal

abbrev pub invariant-loop-n : goal.invariant-loop-n
invariant-loop-n l = record {
  bound : l.n ≤ length l.text;
  plain : flat_map spelled_byte (take l.n l.text) ≡ take l.n l.text;
}

abbrev pub decreases-loop-n : goal.decreases-loop-n
decreases-loop-n l = length l.text - l.n
