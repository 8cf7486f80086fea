use Rattle.std.proofs.Common.{◌+◌, ◌*◌}
use Rattle.ff_forms.specs.Grammar.{a_document, a_handler, an_expression}
use Rattle.ff_reading.proofs.Each.{Before}
use Rattle.ff_reading.proofs.reading.+read.Given as goal

abbrev pub invariant-read_docs-loop-part : goal.invariant-read_docs-loop-part
invariant-read_docs-loop-part l = Before a_document l.parts l.part-index l.docs.items

abbrev pub invariant-read_handlers-loop-part : goal.invariant-read_handlers-loop-part
invariant-read_handlers-loop-part l = Before a_handler l.parts l.part-index l.handlers.items

abbrev pub invariant-read_exprs-loop-part : goal.invariant-read_exprs-loop-part
invariant-read_exprs-loop-part l = Before an_expression l.parts l.part-index l.exprs.items

abbrev pub decreases-read_doc : goal.decreases-read_doc
decreases-read_doc l = 10 * goal.size-read_doc l

abbrev pub decreases-read_expr : goal.decreases-read_expr
decreases-read_expr l = 10 * goal.size-read_expr l

abbrev pub decreases-read_handler : goal.decreases-read_handler
decreases-read_handler l = 10 * goal.size-read_handler l

abbrev pub decreases-read_body : goal.decreases-read_body
decreases-read_body l = 10 * goal.size-read_body l + 1

abbrev pub decreases-read_docs : goal.decreases-read_docs
decreases-read_docs l = 10 * goal.size-read_docs l + 2

abbrev pub decreases-read_handlers : goal.decreases-read_handlers
decreases-read_handlers l = 10 * goal.size-read_handlers l + 2

abbrev pub decreases-read_exprs : goal.decreases-read_exprs
decreases-read_exprs l = 10 * goal.size-read_exprs l + 2

abbrev pub decreases-read_text_box : goal.decreases-read_text_box
decreases-read_text_box l = 10 * goal.size-read_text_box l + 3

abbrev pub decreases-read_button : goal.decreases-read_button
decreases-read_button l = 10 * goal.size-read_button l + 3

abbrev pub decreases-read_script : goal.decreases-read_script
decreases-read_script l = 10 * goal.size-read_script l + 3

abbrev pub decreases-read_div : goal.decreases-read_div
decreases-read_div l = 10 * goal.size-read_div l + 3

abbrev pub decreases-read_handler_form : goal.decreases-read_handler_form
decreases-read_handler_form l = 10 * goal.size-read_handler_form l + 3

abbrev pub decreases-read_let : goal.decreases-read_let
decreases-read_let l = 10 * goal.size-read_let l + 3

abbrev pub decreases-read_set : goal.decreases-read_set
decreases-read_set l = 10 * goal.size-read_set l + 3

abbrev pub decreases-read_if : goal.decreases-read_if
decreases-read_if l = 10 * goal.size-read_if l + 3

abbrev pub decreases-read_while : goal.decreases-read_while
decreases-read_while l = 10 * goal.size-read_while l + 3

abbrev pub decreases-read_do : goal.decreases-read_do
decreases-read_do l = 10 * goal.size-read_do l + 3

abbrev pub decreases-read_and : goal.decreases-read_and
decreases-read_and l = 10 * goal.size-read_and l + 3

abbrev pub decreases-read_or : goal.decreases-read_or
decreases-read_or l = 10 * goal.size-read_or l + 3

abbrev pub decreases-read_make : goal.decreases-read_make
decreases-read_make l = 10 * goal.size-read_make l + 3

abbrev pub decreases-read_apply : goal.decreases-read_apply
decreases-read_apply l = 10 * goal.size-read_apply l + 3

abbrev pub decreases-read_tree : goal.decreases-read_tree
decreases-read_tree l = 10 * goal.size-read_tree l + 3

abbrev pub decreases-read_prim : goal.decreases-read_prim
decreases-read_prim l = 10 * goal.size-read_prim l + 3

abbrev pub decreases-read_doc_form : goal.decreases-read_doc_form
decreases-read_doc_form l = 10 * goal.size-read_doc_form l + 4

abbrev pub decreases-read_expr_form : goal.decreases-read_expr_form
decreases-read_expr_form l = 10 * goal.size-read_expr_form l + 4

abbrev pub decreases-read_doc_list : goal.decreases-read_doc_list
decreases-read_doc_list l = 10 * goal.size-read_doc_list l + 5

abbrev pub decreases-read_expr_list : goal.decreases-read_expr_list
decreases-read_expr_list l = 10 * goal.size-read_expr_list l + 5

abbrev pub decreases-read_handler_list : goal.decreases-read_handler_list
decreases-read_handler_list l = 10 * goal.size-read_handler_list l + 5
