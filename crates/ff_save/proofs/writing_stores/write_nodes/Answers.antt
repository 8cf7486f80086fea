use Rattle.std.proofs.Common.{get_or, refl, arith}
use Rattle.ff_machine.specs.Nodes.{no_node}
use Rattle.ff_printing.proofs.Printing.{nothing}
use Rattle.ff_records.specs.Records.{node_rec}
use Rattle.ff_saved_rows.specs.Rows.{node_rows}
use Rattle.ff_save.proofs.RowByRow.{rec_more, rec_all}
use Rattle.ff_save.proofs.writing_stores.write_nodes.Goals as goal

pub loop-number-init : goal.loop-number-init
loop-number-init c = λ order. nothing c.args.out.now

pub loop-number-preserved : goal.loop-number-preserved
loop-number-preserved c = λ order.
    rec_more node_rows order node_rec no_node c.args.nodes.now c.loop-number.number (node_rec (get_or c.args.nodes.now c.loop-number.number no_node)) (omega (arith, c.loop-number-test.true, c.len-number-end.ensures.value)) refl (c.loop-number.invariant order) (c.write_node.ensures order)

pub returns : goal.returns
returns c = λ order. rec_all node_rows order node_rec no_node c.args.nodes.now c.loop-number.number (omega (arith, c.loop-number-test.false, c.len-number-end.ensures.value)) (c.loop-number.invariant order)
