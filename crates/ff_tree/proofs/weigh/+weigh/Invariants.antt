use Rattle.std.proofs.Common.{◌≡◌, sum, map, take}
use Rattle.ff_tree.specs.Weight.{capped, doc_weight, expr_weight, handler_weight}
use Rattle.ff_tree.proofs.weigh.+weigh.Given as goal

abbrev pub invariant-weight_docs-loop-doc : goal.invariant-weight_docs-loop-doc
invariant-weight_docs-loop-doc l = l.total ≡ capped (sum (map doc_weight (take l.doc-index l.docs)))

abbrev pub invariant-weight_exprs-loop-expr : goal.invariant-weight_exprs-loop-expr
invariant-weight_exprs-loop-expr l = l.total ≡ capped (sum (map expr_weight (take l.expr-index l.exprs)))

abbrev pub invariant-weight_handlers-loop-handler : goal.invariant-weight_handlers-loop-handler
invariant-weight_handlers-loop-handler l = l.total ≡ capped (sum (map handler_weight (take l.handler-index l.handlers)))
