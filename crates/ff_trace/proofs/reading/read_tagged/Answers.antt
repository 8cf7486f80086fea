use Rattle.ff_trace.proofs.Worded.{rest_fits}
use Rattle.ff_trace.proofs.reading.read_tagged.Goals as goal

pub returns-in_ok-act-in-Some-by_name-clause-well_spelled :
    goal.returns-in_ok-act-in-Some-by_name-clause-well_spelled
returns-in_ok-act-in-Some-by_name-clause-well_spelled c = λ well. record {
  spelled = c.in_ok-act-in-Some-by_name.ensures.well_spelled (rest_fits c.args.items.now c.in-Some.first.now c.in-Some.rest.now c.in-Some.ensures.cases.0 well);
  tag = c.in-Some-by_name.ensures.within;
}
