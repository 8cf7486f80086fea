use Rattle.std.proofs.Common.{◌≡◌, ℕ, ◌<◌, List, [], sym, ◌∙◌, ap, length, arith}
use Rattle.std.proofs.lemmas.List.{get_or_read}
use Rattle.ff_lattice.specs.LevelSet.{has}
use Rattle.ff_lattice.specs.Relation.{related}
use Rattle.ff_lattice.proofs.Tables.{column_with, column_without}
use Rattle.ff_lattice.proofs.relation.related_to.Goals as goal
use Rattle.ff_lattice.proofs.relation.related_to.Goals.{then-has, else-has}

pub loop-number-preserved : goal.loop-number-preserved
loop-number-preserved c =
    let in_number : c.loop-number.number < length c.args.rows.now = omega arith in
    let row : c.has.result ≡ related c.args.rows.now c.loop-number.number c.args.high.0 =
    c.has.ensures ∙ ap (λ (r : List ℕ). has r c.args.high.0) (get_or_read c.args.rows.now c.loop-number.number c.index-rows-number.result in_number c.index-rows-number.is []) in
    elim c.if-has.branch [
      | then-has w ↦
          w.levels-is ∙ w.with-levels.ensures
          ∙ column_with c.args.rows.now c.args.high.0 c.loop-number.number c.loop-number.levels (sym row ∙ w.if-has.true) c.loop-number.invariant
      | else-has w ↦
          w.levels-is ∙ column_without c.args.rows.now c.args.high.0 c.loop-number.number c.loop-number.levels (sym row ∙ w.if-has.false) c.loop-number.invariant
    ]
