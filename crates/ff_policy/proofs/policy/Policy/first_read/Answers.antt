use Rattle.serde_json.specs.View.{view}
use Rattle.ff_policy.proofs.Steps.{reads_ok, reads_err}
use Rattle.ff_policy.proofs.policy.Policy.first_read.Goals as goal

pub returns-clause-found : goal.returns-clause-found
returns-clause-found c = reads_ok c.args.bytes.now (view c.in_ok-value.value) c.in_ok-value.ensures.found.0 c.in_ok-value.ensures.found.1 c.of_value.result c.of_value.ensures.found

pub returns-clause-fault : goal.returns-clause-fault
returns-clause-fault c = reads_err c.args.bytes.now (view c.in_ok-value.value) c.in_ok-value.ensures.found.0 c.in_ok-value.ensures.found.1 c.of_value.result c.of_value.ensures.fault
