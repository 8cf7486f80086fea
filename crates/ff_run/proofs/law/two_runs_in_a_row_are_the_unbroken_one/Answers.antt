use Rattle.ff_run.proofs.InARow.{row_text, row_turns}
use Rattle.ff_run.proofs.law.two_runs_in_a_row_are_the_unbroken_one.Goals as goal

pub returns-clause-text : goal.returns-clause-text
returns-clause-text c p before now name file from read is js valid row = row_text p before name from is now file read valid row js

pub returns-clause-turns : goal.returns-clause-turns
returns-clause-turns c p before now name file from read is js valid row = row_turns p before name from is now file read valid row js
