use Rattle.std.proofs.Common.{◌≡◌, ◌==◌}
use Rattle.ff_confinement.specs.Worlds.{leader}
use Rattle.ff_pool.proofs.Members.{class_below}
use Rattle.ff_pool.proofs.classes.class_of.Given as goal

abbrev pub invariant-loop-k : goal.invariant-loop-k
invariant-loop-k l = l.class ≡ class_below (λ k. leader l.leaders k == leader l.leaders l.l) l.k
