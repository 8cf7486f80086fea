use Rattle.ff_number.specs.Decimal.{nat_text}
use Rattle.ff_printing.proofs.Printing.{noted}
use Rattle.ff_printing.proofs.printer.Printer.nat.Goals as goal

pub returns : goal.returns
returns c = noted c.args.self.now (record { bytes = c.print_nat-done.new.out; failed = c.is_err-self.result }) (nat_text c.args.n) c.print_nat-done.result c.if-self.false c.is_err-self.ensures.value c.print_nat-done.ensures
