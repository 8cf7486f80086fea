use Rattle.ff_resume.proofs.Stood.{text_agrees}
use Rattle.ff_resume.proofs.law.equal_standings_are_saved_as_the_same.Goals as goal

pub returns : goal.returns
returns c = text_agrees
