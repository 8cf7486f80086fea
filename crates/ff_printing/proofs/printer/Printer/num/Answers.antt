use Rattle.std.proofs.Common.{ap, sym, to_z, of_z, to_z-of_z}
use Rattle.std.specs.Int.{w64}
use Rattle.ff_number.specs.Decimal.{num_text}
use Rattle.ff_printing.proofs.Printing.{noted, prints_as}
use Rattle.ff_printing.proofs.printer.Printer.num.Goals as goal

pub returns : goal.returns
returns c =
    prints_as (num_text c.args.n) (ap num_text (sym (to_z-of_z c.ranges.n)))
    (noted c.args.self.now (record { bytes = c.print_num-done.new.out; failed = c.is_err-self.result }) (num_text (to_z w64 (of_z w64 c.args.n))) c.print_num-done.result c.if-self.false c.is_err-self.ensures.value c.print_num-done.ensures)
