use Rattle.ff_resume.proofs.Ending.{ends_at_rest}
use Rattle.ff_resume.proofs.law.a_run_ends_at_rest.Goals as goal

pub returns : goal.returns
returns c = ends_at_rest
