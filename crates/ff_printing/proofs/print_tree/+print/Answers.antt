use Rattle.std.proofs.Common.{◌≡◌, ◌∷◌, [], ap, sym, ◌∙◌, map}
use Rattle.ff_text.specs.Printed.{spelled}
use Rattle.ff_tree.specs.declared.tree.Expr.TheVariants as expr
use Rattle.ff_forms.specs.Canonical.{word, string, parens, doc_item, expr_item, handler_item}
use Rattle.ff_forms.specs.Heads.{doc_word, expr_word, handler_word}
use Rattle.ff_forms.specs.declared.heads.DocHead.TheVariants as doc_head
use Rattle.ff_forms.specs.declared.heads.ExprHead.TheVariants as expr_head
use Rattle.ff_forms.specs.declared.heads.HandlerHead.TheVariants as handler_head
use Rattle.ff_printing.proofs.Printing.{then, listed, listed_first, as_item, ended, one_more, blank_then, prints_item, spelled-word}
use Rattle.ff_printing.proofs.Items.{expr_item-Var, expr_item-If, expr_item-While, expr_item-And, expr_item-Or, expr_item-Apply}
use Rattle.ff_printing.proofs.print_tree.+print.Goals as goal

pub print_binding-returns : goal.print_binding-returns
print_binding-returns t c = listed (expr_word c.args.head) (word c.args.name.now ∷ expr_item c.args.body.now ∷ []) c.open.ensures (then c.name.ensures (then c.print_part.ensures c.close_list.ensures))

pub print_list-returns : goal.print_list-returns
print_list-returns t c = listed (expr_word c.args.head) (map expr_item c.args.parts.now) c.open.ensures (ended expr_item c.args.parts.now c.print_parts.ensures c.close_list.ensures)

pub print_function-returns : goal.print_function-returns
print_function-returns t c = listed (expr_word expr_head.Make) (parens (map word c.args.params.now) ∷ expr_item c.args.body.now ∷ []) c.open.ensures (then c.print_params.ensures (then c.print_part.ensures c.close_list.ensures))

pub print_new-returns : goal.print_new-returns
print_new-returns t c = listed (expr_word expr_head.Tree) (doc_item c.args.doc.now ∷ []) c.open.ensures (then c.print_child.ensures c.close_list.ensures)

pub print_part-returns : goal.print_part-returns
print_part-returns t c = blank_then (expr_item c.args.expr.now) c.bytes.ensures c.print_expr.ensures

pub print_child-returns : goal.print_child-returns
print_child-returns t c = blank_then (doc_item c.args.doc.now) c.bytes.ensures c.print_doc.ensures

pub print_with_parameter-returns : goal.print_with_parameter-returns
print_with_parameter-returns t c = listed (handler_word handler_head.Make) (parens (word c.args.param.now ∷ []) ∷ expr_item c.args.body.now ∷ []) c.open.ensures (then c.parameter.ensures (then c.print_part.ensures c.close_list.ensures))

pub print_field-returns : goal.print_field-returns
print_field-returns t c = listed (doc_word c.args.head) (word c.args.name.now ∷ string c.args.text.now ∷ map handler_item c.args.handlers.now) c.open.ensures (then c.name.ensures (then c.string.ensures (ended handler_item c.args.handlers.now c.print_handlers.ensures c.close_list.ensures)))

pub print_script-returns : goal.print_script-returns
print_script-returns t c = listed (doc_word doc_head.Script) (word c.args.name.now ∷ expr_item c.args.body.now ∷ []) c.open.ensures (then c.name.ensures (then c.print_part.ensures c.close_list.ensures))

pub print_div-returns : goal.print_div-returns
print_div-returns t c = listed (doc_word doc_head.Div) (word c.args.name.now ∷ map doc_item c.args.parts.now) c.open.ensures (then c.name.ensures (ended doc_item c.args.parts.now c.print_docs.ensures c.close_list.ensures))

pub print_parts-loop-part-preserved : goal.print_parts-loop-part-preserved
print_parts-loop-part-preserved t c = one_more expr_item c.args.parts.now c.loop-part.part-index c.part-item.result c.loop-part-test.true c.part-item.is c.loop-part.invariant c.print_part.ensures

pub print_handlers-loop-handler-preserved : goal.print_handlers-loop-handler-preserved
print_handlers-loop-handler-preserved t c = one_more handler_item c.args.handlers.now c.loop-handler.handler-index c.handler-item.result c.loop-handler-test.true c.handler-item.is c.loop-handler.invariant (blank_then (handler_item c.handler-item.result) c.bytes.ensures c.print_handler.ensures)

pub print_docs-loop-doc-preserved : goal.print_docs-loop-doc-preserved
print_docs-loop-doc-preserved t c = one_more doc_item c.args.docs.now c.loop-doc.doc-index c.doc-item.result c.loop-doc-test.true c.doc-item.is c.loop-doc.invariant c.print_child.ensures

pub print_first-returns : goal.print_first-returns
print_first-returns t c = then c.open.ensures c.print_part.ensures

pub print_last-returns : goal.print_last-returns
print_last-returns t c = then c.print_part.ensures c.close_list.ensures

pub print_expr-returns-in-Var : goal.print_expr-returns-in-Var
print_expr-returns-in-Var t c = prints_item (expr_item c.args.expr.now) (ap (λ e. spelled (expr_item e)) c.in-Var.is ∙ ap spelled (expr_item-Var c.in-Var.name) ∙ spelled-word c.in-Var.name ∙ sym (c.as_bytes.ensures.value ∙ c.text.ensures.value)) c.bytes.ensures

pub print_expr-returns-in-If : goal.print_expr-returns-in-If
print_expr-returns-in-If t c =
    let is : c.args.expr.now ≡ expr.If c.get-in-If.result.now c.get-in-If-2.result.now c.get-in-If-3.result.now = cc in
    as_item (expr_item c.args.expr.now) (ap expr_item is ∙ expr_item-If c.get-in-If.result.now c.get-in-If-2.result.now c.get-in-If-3.result.now)
    (listed_first (expr_word expr_head.If) (expr_item c.get-in-If.result.now) (expr_item c.get-in-If-2.result.now ∷ expr_item c.get-in-If-3.result.now ∷ []) c.print_first.ensures (then c.print_part.ensures c.print_last.ensures))

pub print_expr-returns-in-While : goal.print_expr-returns-in-While
print_expr-returns-in-While t c =
    let is : c.args.expr.now ≡ expr.While c.get-in-While.result.now c.get-in-While-2.result.now = cc in
    as_item (expr_item c.args.expr.now) (ap expr_item is ∙ expr_item-While c.get-in-While.result.now c.get-in-While-2.result.now)
    (listed_first (expr_word expr_head.While) (expr_item c.get-in-While.result.now) (expr_item c.get-in-While-2.result.now ∷ []) c.print_first-in-While.ensures c.print_last-in-While.ensures)

pub print_expr-returns-in-And : goal.print_expr-returns-in-And
print_expr-returns-in-And t c =
    let is : c.args.expr.now ≡ expr.And c.get-in-And.result.now c.get-in-And-2.result.now = cc in
    as_item (expr_item c.args.expr.now) (ap expr_item is ∙ expr_item-And c.get-in-And.result.now c.get-in-And-2.result.now)
    (listed_first (expr_word expr_head.And) (expr_item c.get-in-And.result.now) (expr_item c.get-in-And-2.result.now ∷ []) c.print_first-in-And.ensures c.print_last-in-And.ensures)

pub print_expr-returns-in-Or : goal.print_expr-returns-in-Or
print_expr-returns-in-Or t c =
    let is : c.args.expr.now ≡ expr.Or c.get-in-Or.result.now c.get-in-Or-2.result.now = cc in
    as_item (expr_item c.args.expr.now) (ap expr_item is ∙ expr_item-Or c.get-in-Or.result.now c.get-in-Or-2.result.now)
    (listed_first (expr_word expr_head.Or) (expr_item c.get-in-Or.result.now) (expr_item c.get-in-Or-2.result.now ∷ []) c.print_first-in-Or.ensures c.print_last-in-Or.ensures)

pub print_expr-returns-in-Apply : goal.print_expr-returns-in-Apply
print_expr-returns-in-Apply t c =
    let is : c.args.expr.now ≡ expr.Apply c.get-in-Apply.result.now c.as_slice-in-Apply.result.now = cc in
    as_item (expr_item c.args.expr.now) (ap expr_item is ∙ expr_item-Apply c.get-in-Apply.result.now c.as_slice-in-Apply.result.now)
    (listed_first (expr_word expr_head.Apply) (expr_item c.get-in-Apply.result.now) (map expr_item c.as_slice-in-Apply.result.now) c.print_first-in-Apply.ensures (ended expr_item c.as_slice-in-Apply.result.now c.print_parts.ensures c.close_list.ensures))
