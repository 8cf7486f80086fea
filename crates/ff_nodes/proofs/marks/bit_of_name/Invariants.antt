use Rattle.std.proofs.Common.{◌≡◌, ◌<◌, fold, take}
use Rattle.ff_nodes.specs.Marked.{next_bit}
use Rattle.ff_nodes.proofs.marks.bit_of_name.Given as goal

abbrev pub invariant-loop-b : goal.invariant-loop-b
invariant-loop-b l = record { value : l.at ≡ fold next_bit 0 (take l.b-index l.name); bound : l.at < 64 }
