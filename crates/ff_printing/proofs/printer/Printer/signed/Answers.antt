use Rattle.std.proofs.Common.{ap, sym, to_z-of_z}
use Rattle.ff_forms.specs.Canonical.{word}
use Rattle.ff_number.specs.Decimal.{num_text}
use Rattle.ff_printing.proofs.Printing.{blank_then, prints_word}
use Rattle.ff_printing.proofs.printer.Printer.signed.Goals as goal

pub returns : goal.returns
returns c = blank_then (word (num_text c.args.n)) c.bytes.ensures (prints_word (num_text c.args.n) (ap num_text (to_z-of_z c.ranges.n)) c.num.ensures)
