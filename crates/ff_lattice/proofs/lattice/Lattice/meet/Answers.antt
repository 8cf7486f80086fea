use Rattle.std.proofs.Common.{◌<◌, length, sym, subst}
use Rattle.ff_lattice.specs.Order.{Order, size}
use Rattle.ff_lattice.proofs.Words.{under_rows, down_meet, meet_from_down, meet-is}
use Rattle.ff_lattice.proofs.lattice.Lattice.meet.Goals as goal

pub join_in-requires-clause-rows : goal.join_in-requires-clause-rows
join_in-requires-clause-rows c = under_rows _ _ c.self.invariant c.deref.result.now c.deref.ensures.value

pub unreachable-requires : goal.unreachable-requires
unreachable-requires c =
    let first : c.args.a.0 < length c.self.inside.names.items = subst (λ (order : Order). c.args.a.0 < size order) (sym c.self.view_is) c.requires.first in
    let second : c.args.b.0 < length c.self.inside.names.items = subst (λ (order : Order). c.args.b.0 < size order) (sym c.self.view_is) c.requires.second in
    c.in-None.ensures.none (down_meet _ _ c.self.invariant c.deref.result.now c.deref.ensures.value c.args.a.0 c.args.b.0 first second)

pub returns-clause-value : goal.returns-clause-value
returns-clause-value c =
    let first : c.args.a.0 < length c.self.inside.names.items = subst (λ (order : Order). c.args.a.0 < size order) (sym c.self.view_is) c.requires.first in
    let second : c.args.b.0 < length c.self.inside.names.items = subst (λ (order : Order). c.args.b.0 < size order) (sym c.self.view_is) c.requires.second in
    rw (← c.self.view_is) (meet-is _ c.self.invariant.valid c.args.a.0 c.args.b.0 c.in-Some.level.0
    (meet_from_down _ _ c.self.invariant c.deref.result.now c.deref.ensures.value c.args.a.0 c.args.b.0 c.in-Some.level.0 first second c.in-Some.ensures.found))
