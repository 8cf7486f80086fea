use Rattle.std.proofs.Common.{None, Option, get_or, sym, ap, subst, ◌∙◌, arith}
use Rattle.std.specs.List.{All}
use Rattle.std.proofs.lemmas.List.Elements.{All-push}
use Rattle.ff_value.specs.declared.ids.NodeId.{NodeId}
use Rattle.ff_records.specs.declared.records.NodeRec.{NodeRec}
use Rattle.ff_nodes.specs.Laying.{HasOwn}
use Rattle.ff_nodes.specs.Recorded.{node_of}
use Rattle.ff_nodes.proofs.Restored.{cell_more}
use Rattle.ff_nodes.proofs.restoring.cells_of.Goals as goal

pub loop-i-preserved : goal.loop-i-preserved
loop-i-preserved g c =
    let p : Option NodeId = get_or c.args.parents.now c.loop-i.i None in
    let node = c.in_ok-cell.ensures.node ∙ ap (λ (q : NodeRec). node_of q p) c.index-recs-i.is in
    record {
      nodes = cell_more c.args.recs.now c.args.parents.now c.loop-i.i c.index-recs-i.result c.loop-i-test.true c.requires c.loop-i.cells c.push.new.self c.in_ok-cell.cell c.in-Ok.ensures.done node c.loop-i.invariant.nodes;
      own = subst (All HasOwn) (sym c.in-Ok.ensures.done) (All-push HasOwn c.loop-i.cells c.in_ok-cell.cell c.loop-i.invariant.own c.in_ok-cell.ensures.own);
      later = omega (arith, c.loop-i.invariant.later, c.in-Ok.ensures.copies);
    }
