use Rattle.std.proofs.Common.{refl}
use Rattle.ff_forms.specs.Canonical.{word}
use Rattle.ff_printing.proofs.Printing.{blank_then, prints_word}
use Rattle.ff_printing.proofs.printer.Printer.word.Goals as goal

pub returns : goal.returns
returns c = blank_then (word c.args.text.now) c.bytes.ensures (prints_word c.args.text.now refl c.bytes-2.ensures)
