use Rattle.std.proofs.Common.{rules, refl, ◌∙◌, ◌-◌, Ok, length, ap, sym, inl, arith}
use Rattle.ff_tree.specs.declared.tree.Expr.TheVariants as expr
use Rattle.ff_tree.specs.declared.tree.Lit.TheVariants as lit
use Rattle.ff_forms.specs.Grammar.{a_document, a_handler, an_expression}
use Rattle.ff_reading.proofs.Falling.{part_falls, tail_falls}
use Rattle.ff_reading.proofs.Shaped.{list_given, no_list_refused}
use Rattle.ff_reading.proofs.Layers.{string_layer, word_gives, list_gives}
use Rattle.ff_reading.proofs.reading.+read.Goals as goal

pub read_doc-returns-in_err-at : goal.read_doc-returns-in_err-at
read_doc-returns-in_err-at t c = rw (no_list_refused c.args.item.now c.in_err-at.field-0.0 a_document (λ at. refl) refl refl c.in_err-at.ensures.other) (search rules)

pub read_doc-returns : goal.read_doc-returns
read_doc-returns t c = list_given c.args.item.now c.in_ok-at.at c.in_ok-at.parts.now a_document c.read_doc_list.result c.in_ok-at.ensures.list c.read_doc_list.ensures

pub read_handler-returns-in_err-at : goal.read_handler-returns-in_err-at
read_handler-returns-in_err-at t c = rw (no_list_refused c.args.item.now c.in_err-at.field-0.0 a_handler (λ at. refl) refl refl c.in_err-at.ensures.other) (search rules)

pub read_handler-returns : goal.read_handler-returns
read_handler-returns t c = list_given c.args.item.now c.in_ok-at.at c.in_ok-at.parts.now a_handler c.read_handler_list.result c.in_ok-at.ensures.list c.read_handler_list.ensures

pub read_expr-returns-in-Word : goal.read_expr-returns-in-Word
read_expr-returns-in-Word t c = word_gives c.args.item.now c.in-Word.at c.in-Word.word c.as_bytes.result.now an_expression c.read_word.result c.in-Word.is c.as_bytes.ensures.value c.read_word.ensures

pub read_expr-returns-in_ok-copy-in-Str : goal.read_expr-returns-in_ok-copy-in-Str
read_expr-returns-in_ok-copy-in-Str t c = inl (ap (λ text. Ok (expr.Lit (lit.Str text))) c.in_ok-copy-in-Str.ensures ∙ sym (string_layer c.args.item.now c.in-Str.field-0 c.in-Str.text an_expression c.in-Str.is))

pub read_expr-returns-in-List : goal.read_expr-returns-in-List
read_expr-returns-in-List t c = list_gives c.args.item.now c.in-List.at c.in-List.parts c.as_slice.result.now an_expression c.read_expr_list.result c.in-List.is c.as_slice.ensures c.read_expr_list.ensures

pub read_doc_form-returns-in-Text : goal.read_doc_form-returns-in-Text
read_doc_form-returns-in-Text t c = rw c.in-Text.is c.read_text.ensures

pub read_doc_form-returns-in-Link : goal.read_doc_form-returns-in-Link
read_doc_form-returns-in-Link t c = rw c.in-Link.is c.read_link.ensures

pub read_doc_form-returns-in-TextBox : goal.read_doc_form-returns-in-TextBox
read_doc_form-returns-in-TextBox t c = rw c.in-TextBox.is c.read_text_box.ensures

pub read_doc_form-returns-in-Button : goal.read_doc_form-returns-in-Button
read_doc_form-returns-in-Button t c = rw c.in-Button.is c.read_button.ensures

pub read_doc_form-returns-in-Script : goal.read_doc_form-returns-in-Script
read_doc_form-returns-in-Script t c = rw c.in-Script.is c.read_script.ensures

pub read_doc_form-returns-in-Src : goal.read_doc_form-returns-in-Src
read_doc_form-returns-in-Src t c = rw c.in-Src.is c.read_src.ensures

pub read_doc_form-returns-in-Div : goal.read_doc_form-returns-in-Div
read_doc_form-returns-in-Div t c = rw c.in-Div.is c.read_div.ensures

pub read_expr_form-returns-in-Let : goal.read_expr_form-returns-in-Let
read_expr_form-returns-in-Let t c = rw c.in-Let.is c.read_let.ensures

pub read_expr_form-returns-in-Set : goal.read_expr_form-returns-in-Set
read_expr_form-returns-in-Set t c = rw c.in-Set.is c.read_set.ensures

pub read_expr_form-returns-in-If : goal.read_expr_form-returns-in-If
read_expr_form-returns-in-If t c = rw c.in-If.is c.read_if.ensures

pub read_expr_form-returns-in-While : goal.read_expr_form-returns-in-While
read_expr_form-returns-in-While t c = rw c.in-While.is c.read_while.ensures

pub read_expr_form-returns-in-Do : goal.read_expr_form-returns-in-Do
read_expr_form-returns-in-Do t c = rw c.in-Do.is c.read_do.ensures

pub read_expr_form-returns-in-And : goal.read_expr_form-returns-in-And
read_expr_form-returns-in-And t c = rw c.in-And.is c.read_and.ensures

pub read_expr_form-returns-in-Or : goal.read_expr_form-returns-in-Or
read_expr_form-returns-in-Or t c = rw c.in-Or.is c.read_or.ensures

pub read_expr_form-returns-in-Make : goal.read_expr_form-returns-in-Make
read_expr_form-returns-in-Make t c = rw c.in-Make.is c.read_make.ensures

pub read_expr_form-returns-in-Apply : goal.read_expr_form-returns-in-Apply
read_expr_form-returns-in-Apply t c = rw c.in-Apply.is c.read_apply.ensures

pub read_expr_form-returns-in-Tree : goal.read_expr_form-returns-in-Tree
read_expr_form-returns-in-Tree t c = rw c.in-Tree.is c.read_tree.ensures

pub read_expr_form-returns-in-Prim : goal.read_expr_form-returns-in-Prim
read_expr_form-returns-in-Prim t c = rw c.in-Prim.is c.read_prim.ensures

pub read_text_box-read_handlers-requires : goal.read_text_box-read_handlers-requires
read_text_box-read_handlers-requires t c = (omega (arith, part_falls c.args.parts.now 2 (length c.args.parts.now - 2)), tt)

pub read_button-read_handlers-requires : goal.read_button-read_handlers-requires
read_button-read_handlers-requires t c = (omega (arith, part_falls c.args.parts.now 2 (length c.args.parts.now - 2)), tt)

pub read_div-read_docs-requires : goal.read_div-read_docs-requires
read_div-read_docs-requires t c = (omega (arith, part_falls c.args.parts.now 1 (length c.args.parts.now - 1)), tt)

pub read_apply-read_exprs-requires : goal.read_apply-read_exprs-requires
read_apply-read_exprs-requires t c = (omega (arith, part_falls c.args.parts.now 1 (length c.args.parts.now - 1)), tt)

pub read_doc_list-read_doc_form-requires : goal.read_doc_list-read_doc_form-requires
read_doc_list-read_doc_form-requires t c = (omega (arith, tail_falls c.args.items.now c.in-Some.parts.now c.in-Some.first.now c.in-Some.ensures.cases.0), tt)

pub read_expr_list-read_expr_form-requires : goal.read_expr_list-read_expr_form-requires
read_expr_list-read_expr_form-requires t c = (omega (arith, tail_falls c.args.items.now c.in-Some.parts.now c.in-Some.first.now c.in-Some.ensures.cases.0), tt)

pub read_handler_list-read_handler_form-requires : goal.read_handler_list-read_handler_form-requires
read_handler_list-read_handler_form-requires t c = (omega (arith, tail_falls c.args.items.now c.in-Some.parts.now c.in-Some.first.now c.in-Some.ensures.cases.0), tt)
