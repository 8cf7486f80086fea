use Rattle.ff_forms.specs.Grammar.{an_expression}
use Rattle.ff_reading.proofs.Results.{expr_result, found_result, only_result, fault_result, exact_result}
use Rattle.ff_reading.proofs.calls.read_expr.Goals as goal

pub returns-clause-found : goal.returns-clause-found
returns-clause-found c = found_result an_expression c.args.item.now c.read_expr.result c.read_expr.ensures

pub returns-clause-well_spelled : goal.returns-clause-well_spelled
returns-clause-well_spelled c well = expr_result c.args.item.now c.read_expr.result c.read_expr.ensures well

pub returns-clause-only : goal.returns-clause-only
returns-clause-only c = only_result an_expression c.args.item.now c.read_expr.result c.read_expr.ensures

pub returns-clause-fault : goal.returns-clause-fault
returns-clause-fault c = fault_result an_expression c.args.item.now c.read_expr.result c.read_expr.ensures

pub returns-clause-exact : goal.returns-clause-exact
returns-clause-exact c = exact_result an_expression c.args.item.now c.read_expr.result c.read_expr.ensures
