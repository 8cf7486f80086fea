use Rattle.std.proofs.Common.{ℕ, subst, length}
use Rattle.ff_lattice.specs.Bounds.{AreCyclic, HasJoin, NoPair, EachPair}
use Rattle.ff_lattice.specs.Relation.{Related}
use Rattle.ff_lattice.proofs.Orders.{IsLeastPair-turned, IsLattice-from_checks}
use Rattle.ff_lattice.proofs.bounds.check_order.Goals as goal

pub returns-in-Some-first_without_join-2-clause-fault : goal.returns-in-Some-first_without_join-2-clause-fault
returns-in-Some-first_without_join-2-clause-fault c = λ _. (
  subst (λ (k : ℕ). NoPair k (AreCyclic (Related c.args.up.now))) c.requires.size c.in_default.ensures,
  subst (λ (k : ℕ). EachPair k (HasJoin (Related c.args.up.now) k)) c.requires.size c.in_default-first_without_join.ensures,
  record {
    a = c.in-Some-first_without_join-2.a.0;
    b = c.in-Some-first_without_join-2.b.0;
    pair = IsLeastPair-turned c.args.up.now c.args.down.now (length c.args.levels.now.items) c.in-Some-first_without_join-2.a.0 c.in-Some-first_without_join-2.b.0 c.requires.size c.requires.down c.in-Some-first_without_join-2.ensures;
    low_is = c.in_ok-low-3.ensures.0;
    high_is = c.in_ok-low-3.ensures.1;
  },
)

pub returns-clause-found : goal.returns-clause-found
returns-clause-found c =
    IsLattice-from_checks c.args.up.now c.args.down.now (length c.args.levels.now.items) c.requires.size c.requires.ordered c.requires.down
    c.in_default.ensures c.in_default-first_without_join.ensures c.in_default-first_without_join-2.ensures
