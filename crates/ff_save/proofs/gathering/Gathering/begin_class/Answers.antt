use Rattle.std.proofs.Common.{refl, subst}
use Rattle.ff_save.specs.Holding.{Ends, held_by}
use Rattle.ff_save.proofs.Collecting.{class_begun}
use Rattle.ff_save.proofs.gathering.Gathering.begin_class.Goals as goal

pub returns-then-not-branch-clause-value : goal.returns-then-not-branch-clause-value
returns-then-not-branch-clause-value g c gathered holds = subst (λ found. Ends c.args.self.now.fuel gathered found (held_by g.B.Reactor.state c.end_class.new.self)) c.if-not-branch.true (c.in_ok-end_class.ensures.value gathered holds)

pub returns-clause-value : goal.returns-clause-value
returns-clause-value g c gathered holds =
    class_begun c.args.self.now.fuel gathered c.args.levels (held_by g.B.Reactor.state c.end_class.new.self) _
    (subst (λ found. Ends c.args.self.now.fuel gathered found (held_by g.B.Reactor.state c.end_class.new.self)) c.if-not-branch.false (c.in_ok-end_class.ensures.value gathered holds)) refl c.in_ok-push.ensures.items refl refl
