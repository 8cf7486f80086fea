use Rattle.std.proofs.Common.{◌≡◌, ℕ, List, []}
use Rattle.ff_value.specs.declared.output.Out.{Out}
use Rattle.ff_confinement.specs.Worlds.{each}
use Rattle.ff_pool.specs.Heads.{new_head}
use Rattle.ff_pool.proofs.pool.Pool.new.Given as goal

abbrev pub invariant-loop-level : goal.invariant-loop-level
invariant-loop-level g l = record {
  heads : l.heads.items ≡ each (λ k. new_head l.fuel) l._level;
  puts : l.puts.items ≡ each {X = List Out} (λ k. []) l._level;
  leaders : l.leaders.items ≡ each {X = ℕ} (λ k. 0) l._level;
}
