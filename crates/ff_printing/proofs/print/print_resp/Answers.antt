use Rattle.ff_printing.proofs.Rereading.{resp_reads_back}
use Rattle.ff_printing.proofs.print.print_resp.Goals as goal

pub returns-in_err-printer-clause-again : goal.returns-in_err-printer-clause-again
returns-in_err-printer-clause-again c well = resp_reads_back c.args.resp.now well

pub returns-clause-again : goal.returns-clause-again
returns-clause-again c well = resp_reads_back c.args.resp.now well
