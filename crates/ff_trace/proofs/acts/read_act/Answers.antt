use Rattle.ff_trace.proofs.Worded.{rest_fits}
use Rattle.ff_trace.proofs.acts.read_act.Goals as goal

pub returns-in-Some-kind_of-clause-well_spelled : goal.returns-in-Some-kind_of-clause-well_spelled
returns-in-Some-kind_of-clause-well_spelled c = λ well. c.read_kind.ensures.well_spelled (rest_fits c.args.items.now c.in-Some.first.now c.in-Some.parts.now c.in-Some.ensures.cases.0 well)
