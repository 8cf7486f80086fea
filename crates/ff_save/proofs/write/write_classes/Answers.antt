use Rattle.std.proofs.Common.{◌≡◌, flat_map, ap, arith}
use Rattle.ff_lattice.specs.Order.{size}
use Rattle.ff_printing.proofs.Printing.{nothing, prints_as}
use Rattle.ff_contract.specs.Lists.{below}
use Rattle.ff_saved_rows.specs.Rows.{rows_text}
use Rattle.ff_save.specs.LevelByLevel.{level_rows}
use Rattle.ff_save.proofs.LevelRows.{level_more}
use Rattle.ff_save.proofs.write.write_classes.Goals as goal

pub loop-number-init : goal.loop-number-init
loop-number-init g c = (omega arith, nothing c.args.out.now)

pub loop-number-preserved : goal.loop-number-preserved
loop-number-preserved g c = (let same = ap size c.lattice.ensures.value in omega (arith, c.loop-number-test.true, c.size-number-end.ensures.value, same), level_more c.args.policy.now.order c.args.pool.now c.loop-number.number c.loop-number.invariant.1 c.write_level.ensures)

pub returns : goal.returns
returns g c =
    let n = c.loop-number.number in
    let most = c.loop-number.invariant.0 in
    let same = ap size c.lattice.ensures.value in
    let all : size c.args.policy.now.order ≡ n = omega (arith, c.loop-number-test.false, c.size-number-end.ensures.value, same, most) in
    prints_as (rows_text c.args.policy.now.order (flat_map (level_rows c.args.pool.now) (below (size c.args.policy.now.order)))) (ap (λ m. rows_text c.args.policy.now.order (flat_map (level_rows c.args.pool.now) (below m))) all) c.loop-number.invariant.1
