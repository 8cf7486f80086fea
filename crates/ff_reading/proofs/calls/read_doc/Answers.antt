use Rattle.ff_forms.specs.Grammar.{a_document}
use Rattle.ff_reading.proofs.Results.{doc_result, found_result, only_result, fault_result, exact_result}
use Rattle.ff_reading.proofs.calls.read_doc.Goals as goal

pub returns-clause-found : goal.returns-clause-found
returns-clause-found c = found_result a_document c.args.item.now c.read_doc.result c.read_doc.ensures

pub returns-clause-well_spelled : goal.returns-clause-well_spelled
returns-clause-well_spelled c well = doc_result c.args.item.now c.read_doc.result c.read_doc.ensures well

pub returns-clause-only : goal.returns-clause-only
returns-clause-only c = only_result a_document c.args.item.now c.read_doc.result c.read_doc.ensures

pub returns-clause-fault : goal.returns-clause-fault
returns-clause-fault c = fault_result a_document c.args.item.now c.read_doc.result c.read_doc.ensures

pub returns-clause-exact : goal.returns-clause-exact
returns-clause-exact c = exact_result a_document c.args.item.now c.read_doc.result c.read_doc.ensures
