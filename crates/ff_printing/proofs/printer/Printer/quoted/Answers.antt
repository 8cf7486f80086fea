use Rattle.ff_text.specs.Notation.{span}
use Rattle.ff_text.specs.Printed.{quoted}
use Rattle.ff_text.proofs.Layers.{spelled-Str}
use Rattle.ff_forms.specs.Canonical.{string}
use Rattle.ff_printing.proofs.Printing.{noted, prints_item}
use Rattle.ff_printing.proofs.printer.Printer.quoted.Goals as goal

pub returns : goal.returns
returns c = prints_item (string c.args.text.now) (spelled-Str (span 0 0) c.args.text.now) (noted c.args.self.now (record { bytes = c.quote-done.new.out; failed = c.is_err-self.result }) (quoted c.args.text.now) c.quote-done.result c.if-self.false c.is_err-self.ensures.value c.quote-done.ensures.appends)
