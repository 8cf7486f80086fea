use Rattle.std.proofs.Common.{◌≡◌, map, length, arith, ap, ◌∙◌}
use Rattle.ff_tree.specs.declared.tree.Doc.TheVariants as doc
use Rattle.ff_tree.specs.declared.tree.Doc.TheViews.{out-Doc}
use Rattle.ff_machine.specs.declared.records.Shape.{Shape}
use Rattle.ff_machine.specs.Documents.{Laid, laid, size_of}
use Rattle.ff_machine.proofs.Laying.{laid-Div}
use Rattle.ff_nodes.specs.Laying.{top_shape}
use Rattle.ff_nodes.proofs.NewCells.{new_none, one_more_laid, one_more_number, size_to_all, size_next_to_all, leaf_new, over_new, root_new}
use Rattle.ff_nodes.proofs.Tops.{alone_laid}
use Rattle.ff_nodes.proofs.laying.+laying.Goals as goal

pub lay_doc-returns-in-Div-clause-new : goal.lay_doc-returns-in-Div-clause-new
lay_doc-returns-in-Div-clause-new g t c =
    over_new c.lay_over.result c.args.env c.args.doc.now _ _ c.in-Div.docs c.as_slice.result.now c.args.cells.now c.lay_over.new.cells c.args.under
    (ap (laid c.args.env) c.in-Div.is ∙ laid-Div c.args.env c.in-Div.field-0 c.in-Div.docs)
    (c.in_ok-shape.ensures ∙ ap top_shape (ap out-Doc c.in-Div.is ∙ doc.outs-Div c.in-Div.field-0 c.in-Div.docs))
    c.as_slice.ensures c.lay_over.ensures.new

pub lay_doc-returns-in-Div-clause-copies : goal.lay_doc-returns-in-Div-clause-copies
lay_doc-returns-in-Div-clause-copies g t c =
    let size = ap (λ (l : Laid). l.size) (ap (laid c.args.env) c.in-Div.is ∙ laid-Div c.args.env c.in-Div.field-0 c.in-Div.docs) in
    let parts : size_of (map (laid c.args.env) c.as_slice.result.now) ≡ size_of (map (laid c.args.env) c.in-Div.docs) = ap (λ ds. size_of (map (laid c.args.env) ds)) c.as_slice.ensures in
    omega (arith, c.lay_over.ensures.copies, size, parts)

pub lay_doc-returns-in_ok-handlers-in_default : goal.lay_doc-returns-in_ok-handlers-in_default
lay_doc-returns-in_ok-handlers-in_default g t c =
    let form = alone_laid c.args.env c.args.doc.now c.in_default.not-Div in
    let size = ap (λ (l : Laid). l.size) form in
    record {
      new = leaf_new c.lay_leaf.result c.args.env c.args.doc.now _ _ _ _ c.args.cells.now c.lay_leaf.new.cells c.args.under form c.in_ok-shape.ensures c.in_ok-handlers-in_default.ensures c.lay_leaf.ensures.new;
      copies = omega (arith, c.lay_leaf.ensures.copies, size);
    }

pub lay_over-returns-clause-new : goal.lay_over-returns-clause-new
lay_over-returns-clause-new g t c =
    let written : c.of-node.result ≡ record { shape = c.args.shape.now; handlers = c.in_ok-no_codes.field-0; children = c.in_ok-children.children; parent = c.args.under } =
    c.of-node.ensures ∙ ap (λ (s : Shape). record { shape = s; handlers = c.in_ok-no_codes.field-0; children = c.in_ok-children.children; parent = c.args.under }) c.in_ok-copy.ensures in
    root_new c.args.env c.args.docs.now c.args.shape.now c.in_ok-no_codes.field-0 c.in_ok-children.children c.args.under c.args.cells.now c.lay_alone.new.cells c.lay_each.new.cells c.set.new.self _ c.of-node.result c.new_cell.result c.len.result
    c.len.ensures.value c.in_ok-lay_alone.ensures.new c.in_ok-children.ensures.new c.in_ok-children.ensures.numbers c.in_ok-no_codes.ensures written c.new_cell.ensures.node c.new_cell.ensures.own c.in-Ok.ensures.done

pub lay_each-loop-doc-init : goal.lay_each-loop-doc-init
lay_each-loop-doc-init g t c = record {
  new = new_none c.args.cells.now;
  ids = c.new-ids.ensures.items;
  count = omega arith;
  later = omega arith;
  copies = omega arith;
}

pub lay_each-loop-doc-preserved : goal.lay_each-loop-doc-preserved
lay_each-loop-doc-preserved g t c =
    let more = one_more_laid c.args.env c.args.docs.now c.loop-doc.doc-index c.doc-item.result c.loop-doc-test.true c.doc-item.is c.args.cells.now c.loop-doc.cells c.lay_doc.new.cells c.args.under c.loop-doc.invariant.new c.loop-doc.invariant.count c.in_ok-lay_doc.ensures.new in
    record {
      new = more.laid_now;
      ids =
          c.in_ok-push.ensures.items
          ∙ one_more_number c.args.env c.args.docs.now c.loop-doc.doc-index c.doc-item.result c.loop-doc-test.true c.doc-item.is (length c.args.cells.now) c.len.result c.loop-doc.ids.items c.loop-doc.invariant.ids (c.len.ensures.value ∙ c.loop-doc.invariant.count);
      count = more.count;
      later = omega (arith, c.loop-doc.invariant.later, c.in_ok-lay_doc.ensures.copies);
      copies = let size = more.size in omega (arith, c.loop-doc.invariant.copies, c.in_ok-lay_doc.ensures.copies, size);
    }

pub lay_each-returns-in_err-push-clause-copies : goal.lay_each-returns-in_err-push-clause-copies
lay_each-returns-in_err-push-clause-copies g t c = omega (arith, c.loop-doc.invariant.later, c.loop-doc.invariant.copies, size_to_all c.args.env c.args.docs.now c.loop-doc.doc-index)

pub lay_each-returns-in_err-lay_doc-clause-copies : goal.lay_each-returns-in_err-lay_doc-clause-copies
lay_each-returns-in_err-lay_doc-clause-copies g t c =
    omega (arith, c.loop-doc.invariant.later, c.loop-doc.invariant.copies, c.in_err-lay_doc.ensures.copies, size_next_to_all c.args.env c.args.docs.now c.loop-doc.doc-index c.doc-item.result c.loop-doc-test.true c.doc-item.is)
