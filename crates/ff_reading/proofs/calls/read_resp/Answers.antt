use Rattle.ff_forms.specs.Grammar.{a_response}
use Rattle.ff_reading.proofs.Results.{resp_result, found_result, only_result, fault_result, exact_result}
use Rattle.ff_reading.proofs.calls.read_resp.Goals as goal

pub returns-clause-found : goal.returns-clause-found
returns-clause-found c = found_result a_response c.args.item.now c.read_resp.result c.read_resp.ensures

pub returns-clause-well_spelled : goal.returns-clause-well_spelled
returns-clause-well_spelled c well = resp_result c.args.item.now c.read_resp.result c.read_resp.ensures well

pub returns-clause-only : goal.returns-clause-only
returns-clause-only c = only_result a_response c.args.item.now c.read_resp.result c.read_resp.ensures

pub returns-clause-fault : goal.returns-clause-fault
returns-clause-fault c = fault_result a_response c.args.item.now c.read_resp.result c.read_resp.ensures

pub returns-clause-exact : goal.returns-clause-exact
returns-clause-exact c = exact_result a_response c.args.item.now c.read_resp.result c.read_resp.ensures
