use Rattle.std.proofs.Common.{◌≡◌, ◌<◌, ◌++◌, ap, ◌∙◌, arith}
use Rattle.ff_confinement.specs.Copies.{at_level}
use Rattle.ff_confinement.specs.Text.{text_of}
use Rattle.ff_lattice.specs.Order.{size}
use Rattle.ff_session.specs.Levels.{levels}
use Rattle.ff_session.proofs.Feeding.{out_start, out_step, all_taken, all_let_out}
use Rattle.ff_session.proofs.offered.let_out.Goals as goal

pub loop-number-init : goal.loop-number-init
loop-number-init g c = out_start c.args.policy.now c.args.pool.now c.args.text.now.items c.requires

pub loop-number-preserved : goal.loop-number-preserved
loop-number-preserved g c =
    let end : c.size-number-end.result ≡ size c.args.policy.now.order = c.size-number-end.ensures.value ∙ ap size c.lattice.ensures.value in
    let within : c.loop-number.number < size c.args.policy.now.order = omega arith in
    out_step c.args.policy.now c.args.pool.now c.args.text.now.items c.loop-number.pool c.take.new.self c.loop-number.text.items c.print_level.new.text.items c.loop-number.number c.in_ok-outs.outs.items
    c.loop-number.invariant within c.in_ok-outs.ensures.done c.in_ok-outs.ensures.outputs
    (c.in_ok-print_level.ensures ∙ ap (λ outs. c.loop-number.text.items ++ text_of (levels c.args.policy.now) (at_level (levels c.args.policy.now) c.loop-number.number outs)) c.as_slice.ensures.value)

pub returns-clause-taken : goal.returns-clause-taken
returns-clause-taken g c =
    let end : c.size-number-end.result ≡ size c.args.policy.now.order = c.size-number-end.ensures.value ∙ ap size c.lattice.ensures.value in
    let all : c.loop-number.number ≡ size c.args.policy.now.order = omega arith in
    all_taken c.args.policy.now c.args.pool.now c.loop-number.pool c.args.text.now.items c.loop-number.text.items c.loop-number.number c.loop-number.invariant all

pub returns-clause-text : goal.returns-clause-text
returns-clause-text g c =
    let end : c.size-number-end.result ≡ size c.args.policy.now.order = c.size-number-end.ensures.value ∙ ap size c.lattice.ensures.value in
    let all : c.loop-number.number ≡ size c.args.policy.now.order = omega arith in
    all_let_out c.args.policy.now c.args.pool.now c.loop-number.pool c.args.text.now.items c.loop-number.text.items c.loop-number.number c.loop-number.invariant all
