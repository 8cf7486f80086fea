use Rattle.std.proofs.Common.{◌<◌, length, sym, subst}
use Rattle.ff_lattice.specs.Order.{Order, size}
use Rattle.ff_lattice.proofs.Words.{up_join, join_from_up, join-is}
use Rattle.ff_lattice.proofs.lattice.Lattice.join.Goals as goal

pub unreachable-requires : goal.unreachable-requires
unreachable-requires c =
    let first : c.args.a.0 < length c.self.inside.names.items = subst (λ (order : Order). c.args.a.0 < size order) (sym c.self.view_is) c.requires.first in
    let second : c.args.b.0 < length c.self.inside.names.items = subst (λ (order : Order). c.args.b.0 < size order) (sym c.self.view_is) c.requires.second in
    c.in-None.ensures.none (up_join _ _ c.self.invariant c.deref.result.now c.deref.ensures.value c.args.a.0 c.args.b.0 first second)

pub returns-clause-value : goal.returns-clause-value
returns-clause-value c =
    rw (← c.self.view_is) (join-is _ c.self.invariant.valid c.args.a.0 c.args.b.0 c.in-Some.level.0
    (join_from_up _ _ c.self.invariant c.deref.result.now c.deref.ensures.value c.args.a.0 c.args.b.0 c.in-Some.level.0 c.in-Some.ensures.found))
