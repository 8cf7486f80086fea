use Rattle.std.proofs.Common.{◌≡◌, false, true, ◌++◌, ap, ◌∙◌, subst, sym, arith, ◌<◌}
use Rattle.ff_confinement.specs.Turns.{turns_left}
use Rattle.ff_machine.specs.Valid.{IsState}
use Rattle.ff_machine.specs.Machine.{reactor}
use Rattle.ff_machine.specs.Inputs.{begin}
use Rattle.ff_session.proofs.Turning.{handling_start, handling_turn, handling_within, handling_falls, handling_ends}
use Rattle.ff_session.proofs.handling.handle.Goals as goal

pub turning-init : goal.turning-init
turning-init g c =
    let state = g.B.Reactor.state in
    let outs = c.in_ok-accept.ensures.outputs ∙ ap (λ os. os ++ (begin (state c.args.browser.now) c.args.input.now).outputs) c.new-outs.ensures.items in
    (handling_start (state c.args.browser.now) c.args.input.now c.args.turns.now (state c.accept.new.self) c.accept.new.outs.items c.in_ok-accept.ensures.done outs c.in_ok-accept.ensures.valid, c.in_ok-accept.ensures.later)

pub turning-smaller : goal.turning-smaller
turning-smaller g c =
    let state = g.B.Reactor.state in
    let busy : (state c.turning.browser).quiet ≡ false = cc in
    let falls = handling_falls (state c.args.browser.now) c.args.input.now c.args.turns.now (state c.turning.browser) c.turning.outs.items c.turning.turns c.turning.invariant.0 busy in
    subst (λ s. turns_left (reactor (state c.args.browser.now).budget) (λ t. t.fuel) s < turns_left (reactor (state c.args.browser.now).budget) (λ t. t.fuel) (state c.turning.browser)) (sym c.in_ok-turn.ensures.done) falls

pub turning-preserved : goal.turning-preserved
turning-preserved g c =
    let state = g.B.Reactor.state in
    let busy : (state c.turning.browser).quiet ≡ false = cc in
    let valid = subst (λ budget. IsState budget (state c.turn.new.self)) (c.turning.invariant.0.valid.budget_is) c.in_ok-turn.ensures.valid in (
      handling_turn (state c.args.browser.now) c.args.input.now c.args.turns.now (state c.turning.browser) c.turning.outs.items c.turning.turns c.turning.invariant.0 (state c.turn.new.self) c.turn.new.outs.items c.turn.new.turns
          busy c.in_ok-turn.ensures.done c.in_ok-turn.ensures.outputs c.in_ok-turn.ensures.counted valid,
      omega arith,
    )

pub returns-in_err-turn-clause-most : goal.returns-in_err-turn-clause-most
returns-in_err-turn-clause-most g c =
    let state = g.B.Reactor.state in
    let busy : (state c.turning.browser).quiet ≡ false = cc in
    handling_within (state c.args.browser.now) c.args.input.now c.args.turns.now (state c.turning.browser) c.turning.outs.items c.turning.turns c.turning.invariant.0 c.turn.new.turns busy c.in_err-turn.ensures.counted

pub returns-clause-outputs : goal.returns-clause-outputs
returns-clause-outputs g c =
    let state = g.B.Reactor.state in
    let quiet : (state c.turning.browser).quiet ≡ true = cc in
    (handling_ends (state c.args.browser.now) c.args.input.now c.args.turns.now (state c.turning.browser) c.turning.outs.items c.turning.turns c.turning.invariant.0 quiet).0

pub returns-clause-state : goal.returns-clause-state
returns-clause-state g c =
    let state = g.B.Reactor.state in
    let quiet : (state c.turning.browser).quiet ≡ true = cc in
    (handling_ends (state c.args.browser.now) c.args.input.now c.args.turns.now (state c.turning.browser) c.turning.outs.items c.turning.turns c.turning.invariant.0 quiet).1
