use Rattle.std.proofs.Common.{◌≡◌, ℕ, ◌<◌, take}
use Rattle.ff_lattice.specs.Levels.{IsRepeat}
use Rattle.ff_lattice.proofs.numbering.distinct_names.Given as goal

abbrev pub invariant-loop-name : goal.invariant-loop-name
invariant-loop-name l = record {
  keys : l.levels.keys ≡ take l.name-index l.names;
  apart : (k : ℕ) → k < l.name-index → ¬ IsRepeat l.names k;
}
