use Rattle.std.proofs.Common.{◌≡◌, ℕ, ◌<◌, [], get_or, length}
use Rattle.ff_lattice.proofs.Tables.{only}
use Rattle.ff_lattice.proofs.relation.equality.Given as goal

abbrev pub invariant-loop-number : goal.invariant-loop-number
invariant-loop-number l = record {
  long : length l.rows.items ≡ l.number;
  each : (j : ℕ) → j < l.number → get_or l.rows.items j [] ≡ only j;
}
