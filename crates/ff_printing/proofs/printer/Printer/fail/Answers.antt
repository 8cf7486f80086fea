use Rattle.std.proofs.Common.{refl, true}
use Rattle.ff_printing.proofs.Printing.{failed_before}
use Rattle.ff_printing.proofs.printer.Printer.fail.Goals as goal

pub returns : goal.returns
returns c = failed_before c.args.self.now (record { bytes = c.args.self.now.bytes; failed = true }) refl refl
