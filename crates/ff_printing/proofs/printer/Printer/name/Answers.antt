use Rattle.std.proofs.Common.{◌∙◌}
use Rattle.ff_forms.specs.Canonical.{word}
use Rattle.ff_printing.proofs.Printing.{blank_then, prints_word}
use Rattle.ff_printing.proofs.printer.Printer.name.Goals as goal

pub returns : goal.returns
returns c = blank_then (word c.args.name.now) c.bytes.ensures (prints_word c.args.name.now (c.as_bytes.ensures.value ∙ c.text.ensures.value) c.bytes-2.ensures)
