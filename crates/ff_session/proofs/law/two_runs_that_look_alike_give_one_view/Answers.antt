use Rattle.ff_session.proofs.Headline.{one_view}
use Rattle.ff_session.proofs.law.two_runs_that_look_alike_give_one_view.Goals as goal

pub returns : goal.returns
returns c = one_view
