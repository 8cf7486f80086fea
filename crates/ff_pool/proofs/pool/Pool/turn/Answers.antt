use Rattle.std.proofs.Common.{◌∙◌, ◌≤◌, ◌+◌, ap, subst}
use Rattle.ff_pool.specs.Heads.{new_head}
use Rattle.ff_pool.proofs.Reading.{read_spelled, read_turns, read_state, turn_kept, turn_seen}
use Rattle.ff_pool.proofs.pool.Pool.turn.Goals as goal

pub step-requires-clause-spelled : goal.step-requires-clause-spelled
step-requires-clause-spelled g c = λ d.
    read_spelled c.self.invariant c.if-self.false c.self.view_is c.requires c.from.ensures d

pub returns-in_err-step-clause-most : goal.returns-in_err-step-clause-most
returns-in_err-step-clause-most g c =
    let none = new_head c.self.inside.fuel in
    subst (λ n. c.step.new.turns ≤ c.args.turns.now + n)
    (read_turns c.self.invariant c.if-self.false c.self.view_is c.requires c.from.ensures none) (c.in_err-step.ensures.most none)

pub invariant_of-self-2 : goal.invariant_of-self-2
invariant_of-self-2 g c = λ still.
    turn_kept c.self.invariant c.if-self.false c.self.view_is c.requires c.from.ensures c.step.ensures.leaders
    c.in_ok-step.ensures.done c.in_ok-step.ensures.outputs

pub returns-clause-done : goal.returns-clause-done
returns-clause-done g c =
    turn_seen c.self.invariant c.if-self.false c.self.view_is c.requires c.from.ensures c.step.ensures.leaders
    c.in_ok-step.ensures.done c.in_ok-step.ensures.outputs

pub returns-clause-count : goal.returns-clause-count
returns-clause-count g c =
    let none = new_head c.self.inside.fuel in
    c.in_ok-step.ensures.count none
    ∙ ap (λ n. c.args.turns.now + n) (read_turns c.self.invariant c.if-self.false c.self.view_is c.requires c.from.ensures none)

pub returns-clause-most : goal.returns-clause-most
returns-clause-most g c =
    let none = new_head c.self.inside.fuel in
    subst (λ n. c.step.new.turns ≤ c.args.turns.now + n)
    (read_turns c.self.invariant c.if-self.false c.self.view_is c.requires c.from.ensures none) (c.in_ok-step.ensures.most none)

pub returns-in_err-step-clause-copies : goal.returns-in_err-step-clause-copies
returns-in_err-step-clause-copies g c = λ busy.
    let none = new_head c.self.inside.fuel in
    let state = read_state c.self.invariant c.if-self.false c.self.view_is c.requires c.from.ensures none in
    subst (λ s. c.step.new.copies ≤ c.args.copies.now + g.B.Reactor.turning s) state (c.in_err-step.ensures.copies none (ap (λ s. s.quiet) state ∙ busy))

pub returns-clause-copies : goal.returns-clause-copies
returns-clause-copies g c = λ busy.
    let none = new_head c.self.inside.fuel in
    let state = read_state c.self.invariant c.if-self.false c.self.view_is c.requires c.from.ensures none in
    subst (λ s. c.step.new.copies ≤ c.args.copies.now + g.B.Reactor.turning s) state (c.in_ok-step.ensures.copies none (ap (λ s. s.quiet) state ∙ busy))
