use Rattle.std.proofs.Common.{◌≡◌, ℕ, ◌<◌, [], get_or, length}
use Rattle.ff_lattice.proofs.Tables.{column}
use Rattle.ff_lattice.proofs.relation.turned.Given as goal

abbrev pub invariant-loop-high : goal.invariant-loop-high
invariant-loop-high l = record {
  long : length l.down.items ≡ l.high;
  each : (j : ℕ) → j < l.high → get_or l.down.items j [] ≡ column l.rows j;
}
