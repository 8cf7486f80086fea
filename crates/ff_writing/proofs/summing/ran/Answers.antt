use Rattle.std.proofs.Common.{subst, arith}
use Rattle.ff_confinement.specs.Standings.{fresh}
use Rattle.ff_session.specs.Levels.{machine}
use Rattle.ff_session.specs.Multi.{seen_by}
use Rattle.ff_writing.specs.Generated.{IsDrawn}
use Rattle.ff_writing.proofs.Drawing.{drawing_start, drawing_more, drawing_at_most, drawing_within}
use Rattle.ff_writing.proofs.summing.ran.Goals as goal

pub loop-drawn-init : goal.loop-drawn-init
loop-drawn-init g c =
    (drawing_start c.args.policy.now c.args.start c.args.turns.now c.new-draws.result c.in_ok-pool.pool c.new-text.result.items c.new-draws.ensures (c.in_ok-pool.ensures.copies (seen_by c.args.policy.now)) c.new-text.ensures.items, omega arith)

pub returns-in_err-input-clause-most : goal.returns-in_err-input-clause-most
returns-in_err-input-clause-most g c =
    drawing_at_most c.args.policy.now c.args.start c.args.turns.now c.loop-drawn.draws c.loop-drawn.pool c.loop-drawn.text.items c.loop-drawn.turns c.loop-drawn._drawn c.loop-drawn.invariant.0 c.args.inputs (omega arith)

pub take-requires-clause-at : goal.take-requires-clause-at
take-requires-clause-at g c = let on = c.loop-drawn.invariant.0 in (fresh (machine c.args.policy.now), on.drawn, (on.at, c.requires))

pub returns-in_err-take-clause-most : goal.returns-in_err-take-clause-most
returns-in_err-take-clause-most g c =
    let on = c.loop-drawn.invariant.0 in
    drawing_within c.args.policy.now c.args.start c.args.turns.now c.loop-drawn.draws c.loop-drawn.pool c.loop-drawn.text.items c.loop-drawn.turns c.loop-drawn._drawn on
    c.next_input.new.draws c.in_ok-input.input c.in_ok-input.ensures.following (subst (λ order. IsDrawn order c.next_input.new.draws c.in_ok-input.input) c.lattice.ensures.value c.in_ok-input.ensures.drawn) c.args.inputs c.take.new.turns (omega arith) (c.take.ensures.most (fresh (machine c.args.policy.now)) on.drawn (on.at, c.requires))

pub loop-drawn-preserved : goal.loop-drawn-preserved
loop-drawn-preserved g c =
    let on = c.loop-drawn.invariant.0 in (
      drawing_more c.args.policy.now c.args.start c.args.turns.now c.loop-drawn.draws c.loop-drawn.pool c.loop-drawn.text.items c.loop-drawn.turns c.loop-drawn._drawn on
          c.next_input.new.draws c.in_ok-input.input c.in_ok-input.ensures.following (subst (λ order. IsDrawn order c.next_input.new.draws c.in_ok-input.input) c.lattice.ensures.value c.in_ok-input.ensures.drawn) c.take.new.state c.take.new.text.items c.take.new.turns
          (c.in_ok-take.ensures.taken (fresh (machine c.args.policy.now)) on.drawn (on.at, c.requires)).0 (c.in_ok-take.ensures.text (fresh (machine c.args.policy.now)) on.drawn (on.at, c.requires)) (c.in_ok-take.ensures.count (fresh (machine c.args.policy.now)) on.drawn (on.at, c.requires)),
      omega arith,
    )

pub returns-clause-most : goal.returns-clause-most
returns-clause-most g c =
    drawing_at_most c.args.policy.now c.args.start c.args.turns.now c.loop-drawn.draws c.loop-drawn.pool c.loop-drawn.text.items c.loop-drawn.turns c.loop-drawn._drawn c.loop-drawn.invariant.0 c.args.inputs (omega arith)
