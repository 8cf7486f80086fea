use Rattle.ff_name.specs.Address.{printed}
use Rattle.ff_printing.proofs.Printing.{noted}
use Rattle.ff_printing.proofs.printer.Printer.url.Goals as goal

pub returns : goal.returns
returns c = noted c.args.self.now (record { bytes = c.print-done.new.out; failed = c.is_err-self.result }) (printed c.args.url.now) c.print-done.result c.if-self.false c.is_err-self.ensures.value c.print-done.ensures
