use Rattle.std.proofs.Common.{take}
use Rattle.ff_forms.specs.Canonical.{doc_item, expr_item, handler_item}
use Rattle.ff_printing.specs.Pieces.{Prints, each_after_blank}
use Rattle.ff_printing.proofs.print_tree.+print.Given as goal

abbrev pub invariant-print_parts-loop-part : goal.invariant-print_parts-loop-part
invariant-print_parts-loop-part l = Prints l.fn.out l.out (each_after_blank expr_item (take l.part-index l.parts))

abbrev pub invariant-print_handlers-loop-handler : goal.invariant-print_handlers-loop-handler
invariant-print_handlers-loop-handler l = Prints l.fn.out l.out (each_after_blank handler_item (take l.handler-index l.handlers))

abbrev pub invariant-print_docs-loop-doc : goal.invariant-print_docs-loop-doc
invariant-print_docs-loop-doc l = Prints l.fn.out l.out (each_after_blank doc_item (take l.doc-index l.docs))
