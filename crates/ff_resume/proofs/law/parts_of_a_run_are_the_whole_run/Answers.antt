use Rattle.std.proofs.Common.{ap}
use Rattle.ff_confinement.specs.Text.{text_out}
use Rattle.ff_confinement.proofs.Standings.{run_fresh}
use Rattle.ff_session.specs.Levels.{levels, machine}
use Rattle.ff_resume.proofs.GoingOn.{parts_saved, parts_text}
use Rattle.ff_resume.proofs.Stood.{parts_stand}
use Rattle.ff_resume.proofs.Turns.{parts_turns}
use Rattle.ff_resume.proofs.law.parts_of_a_run_are_the_whole_run.Goals as goal

pub returns-clause-text : goal.returns-clause-text
returns-clause-text c = parts_text

pub returns-clause-turns : goal.returns-clause-turns
returns-clause-turns c = parts_turns

pub returns-clause-saved : goal.returns-clause-saved
returns-clause-saved c = parts_saved

pub returns-clause-multi : goal.returns-clause-multi
returns-clause-multi c p is = ap (text_out (levels p)) (run_fresh (machine p) (levels p) is)

pub returns-clause-stands : goal.returns-clause-stands
returns-clause-stands c = parts_stand
