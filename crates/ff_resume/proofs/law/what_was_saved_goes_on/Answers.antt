use Rattle.ff_resume.proofs.GoingOn.{goes_on_saved, goes_on_text, goes_on_turns}
use Rattle.ff_resume.proofs.law.what_was_saved_goes_on.Goals as goal

pub returns-clause-text : goal.returns-clause-text
returns-clause-text c p from is js read valid was = goes_on_text p from is read valid was js

pub returns-clause-turns : goal.returns-clause-turns
returns-clause-turns c p from is js read valid was = goes_on_turns p from is read valid was js

pub returns-clause-saved : goal.returns-clause-saved
returns-clause-saved c p from is js read valid was = goes_on_saved p from is read valid was js
