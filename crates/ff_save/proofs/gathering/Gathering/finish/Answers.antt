use Rattle.std.proofs.Common.{◌≤◌, map, sym, ap, subst}
use Rattle.ff_save.specs.Holding.{Ends, held_by}
use Rattle.ff_save.proofs.Finished.{spoiled_pool, finished, finished_ready, each_ready}
use Rattle.ff_save.proofs.gathering.Gathering.finish.Goals as goal

pub returns-then-not-branch-clause-value : goal.returns-then-not-branch-clause-value
returns-then-not-branch-clause-value g c gathered holds =
    spoiled_pool c.args.n c.args.self.fuel gathered (subst (λ found. Ends c.args.self.fuel gathered found (held_by g.B.Reactor.state c.end_class.new.self)) c.if-not-branch.true (c.in_ok-end_class.ensures.value gathered holds))

pub restore-requires-clause-fuel_some : goal.restore-requires-clause-fuel_some
restore-requires-clause-fuel_some g c =
    let ended = subst (λ found. Ends c.args.self.fuel c.requires.held.0 found (held_by g.B.Reactor.state c.end_class.new.self)) c.if-not-branch.false (c.in_ok-end_class.ensures.value c.requires.held.0 c.requires.held.1) in
    subst (λ f. 1 ≤ f) (sym ended.fuel_is) c.requires.some

pub restore-requires-clause-fuel_most : goal.restore-requires-clause-fuel_most
restore-requires-clause-fuel_most g c =
    let ended = subst (λ found. Ends c.args.self.fuel c.requires.held.0 found (held_by g.B.Reactor.state c.end_class.new.self)) c.if-not-branch.false (c.in_ok-end_class.ensures.value c.requires.held.0 c.requires.held.1) in
    subst (λ f. f ≤ 1000000) (sym ended.fuel_is) c.requires.few

pub restore-requires-clause-ready : goal.restore-requires-clause-ready
restore-requires-clause-ready g c =
    each_ready g.B.Reactor.state c.end_class.new.self.fuel c.from_vec.result
    (finished_ready c.args.self.fuel c.requires.held.0 (held_by g.B.Reactor.state c.end_class.new.self)
    (subst (λ found. Ends c.args.self.fuel c.requires.held.0 found (held_by g.B.Reactor.state c.end_class.new.self)) c.if-not-branch.false (c.in_ok-end_class.ensures.value c.requires.held.0 c.requires.held.1)) (map g.B.Reactor.state c.from_vec.result) (ap (map g.B.Reactor.state) c.from_vec.ensures))

pub returns-clause-value : goal.returns-clause-value
returns-clause-value g c gathered holds =
    finished c.args.n c.args.self.fuel gathered (held_by g.B.Reactor.state c.end_class.new.self)
    (subst (λ found. Ends c.args.self.fuel gathered found (held_by g.B.Reactor.state c.end_class.new.self)) c.if-not-branch.false (c.in_ok-end_class.ensures.value gathered holds)) c.as_slice.result.now (map g.B.Reactor.state c.from_vec.result) c.as_slice.ensures.value (ap (map g.B.Reactor.state) c.from_vec.ensures) c.restore.result c.restore.ensures
