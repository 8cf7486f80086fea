use Rattle.ff_travel.specs.Once.{reads_command_once}
use Rattle.ff_travel.proofs.Whole.{command_well, reads_command_some}
use Rattle.ff_travel.proofs.reading_law.a_line_is_one_command.Goals as goal

pub returns : goal.returns
returns c = record { some = reads_command_some; spelled = command_well; one = reads_command_once }
