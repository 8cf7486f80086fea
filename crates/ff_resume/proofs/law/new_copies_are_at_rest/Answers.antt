use Rattle.ff_resume.proofs.New.{new_rests, new_text, new_turns}
use Rattle.ff_resume.proofs.law.new_copies_are_at_rest.Goals as goal

pub returns-clause-rests : goal.returns-clause-rests
returns-clause-rests c = new_rests

pub returns-clause-text : goal.returns-clause-text
returns-clause-text c = new_text

pub returns-clause-turns : goal.returns-clause-turns
returns-clause-turns c = new_turns
