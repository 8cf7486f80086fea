use Rattle.std.proofs.Common.{◌≡◌, take}
use Rattle.ff_lattice.proofs.numbering.copied.Given as goal

abbrev pub invariant-loop-name : goal.invariant-loop-name
invariant-loop-name l = l.levels.items ≡ take l.name-index l.names
