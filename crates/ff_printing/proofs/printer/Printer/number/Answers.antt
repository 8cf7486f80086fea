use Rattle.std.proofs.Common.{refl}
use Rattle.ff_forms.specs.Canonical.{word}
use Rattle.ff_number.specs.Decimal.{nat_text}
use Rattle.ff_printing.proofs.Printing.{blank_then, prints_word}
use Rattle.ff_printing.proofs.printer.Printer.number.Goals as goal

pub returns : goal.returns
returns c = blank_then (word (nat_text c.args.n)) c.bytes.ensures (prints_word (nat_text c.args.n) refl c.nat.ensures)
