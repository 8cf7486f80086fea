use Rattle.std.proofs.Common.{◌≡◌, List, []}
use Rattle.ff_value.specs.declared.output.Out.{Out}
use Rattle.ff_confinement.specs.Worlds.{each}
use Rattle.ff_pool.proofs.restoring.no_outs.Given as goal

abbrev pub invariant-loop-level : goal.invariant-loop-level
invariant-loop-level l = l.puts.items ≡ each {X = List Out} (λ k. []) l._level
