use Rattle.ff_text.proofs.Back.{reads_back}
use Rattle.ff_text.proofs.printing.print.Goals as goal

pub returns-clause-again : goal.returns-clause-again
returns-clause-again c well = reads_back c.args.item.now well
