use Rattle.ff_name.specs.Address.{printed}
use Rattle.ff_forms.specs.Canonical.{address}
use Rattle.ff_printing.proofs.Printing.{blank_then, prints_item, spelled-word}
use Rattle.ff_printing.proofs.printer.Printer.address.Goals as goal

pub returns : goal.returns
returns c = blank_then (address c.args.url.now) c.bytes.ensures (prints_item (address c.args.url.now) (spelled-word (printed c.args.url.now)) c.url.ensures)
