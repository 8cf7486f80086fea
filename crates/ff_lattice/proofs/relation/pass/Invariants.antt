use Rattle.std.proofs.Common.{◌≡◌, ℕ, ◌<◌, ◌≤◌, [], get_or}
use Rattle.ff_lattice.proofs.Tables.{through}
use Rattle.ff_lattice.proofs.relation.pass.Given as goal

abbrev pub invariant-loop-row : goal.invariant-loop-row
invariant-loop-row l = record {
  done : (j : ℕ) → j < l.row-index → get_or l.rows j [] ≡ through l.middle.0 l.reached (get_or l.initial.rows j []);
  left : (j : ℕ) → l.row-index ≤ j → get_or l.rows j [] ≡ get_or l.initial.rows j [];
}
