use Rattle.std.proofs.Common.{◌≡◌, ◌∙◌, ◌++◌, length, slice_index_or, rules, arith, subst, sym}
use Rattle.ff_lattice.specs.Order.{name, size}
use Rattle.ff_session.specs.OwnLines.{own_contents}
use Rattle.ff_audit.specs.Comparing.{ComparesAt}
use Rattle.ff_audit.proofs.Leveled.{hears_more, hears_done}
use Rattle.ff_audit.proofs.hearing.hear_all.Goals as goal

pub loop-number-preserved : goal.loop-number-preserved
loop-number-preserved c =
    let word : c.as_bytes-name.result.now ≡ name c.args.lattice.now c.loop-number.number = c.as_bytes-name.ensures.value ∙ c.name.ensures.value in
    let place : c.from.result ≡ c.loop-number.number = search rules in
    hears_more c.args.lattice.now c.args.plain.now c.args.multi.now c.args.levels.now c.loop-number.levels _ c.loop-number.number c.hear.new.comparison c.index-levels-from.result c.loop-number.invariant (search rules) (search rules)
    (λ ps ms at.
    subst (λ w. ComparesAt c.hear.new.comparison (ps ++ own_contents w c.args.plain.now) (ms ++ own_contents w c.args.multi.now)) word
    (c.in_ok-hear.ensures ps ms (subst (λ k. ComparesAt (slice_index_or c.loop-number.levels k c.index-levels-from.result) ps ms) (sym place) at)))

pub returns-clause-heard : goal.returns-clause-heard
returns-clause-heard c =
    let end : c.size-number-end.result ≡ size c.args.lattice.now = c.size-number-end.ensures.value in
    let long : length c.args.levels.now ≡ size c.args.lattice.now = c.requires in
    hears_done c.args.lattice.now c.args.plain.now c.args.multi.now c.args.levels.now c.loop-number.levels c.loop-number.number c.loop-number.invariant (omega arith)
