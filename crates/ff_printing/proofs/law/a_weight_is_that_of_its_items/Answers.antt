use Rattle.ff_printing.proofs.Weighing.{doc_weighs, expr_weighs, resp_weighs}
use Rattle.ff_printing.proofs.law.a_weight_is_that_of_its_items.Goals as goal

pub returns-clause-docs : goal.returns-clause-docs
returns-clause-docs c = doc_weighs

pub returns-clause-exprs : goal.returns-clause-exprs
returns-clause-exprs c = expr_weighs

pub returns-clause-resps : goal.returns-clause-resps
returns-clause-resps c = resp_weighs
