use Rattle.std.proofs.Common.{◌∷◌, []}
use Rattle.ff_forms.specs.Canonical.{string}
use Rattle.ff_printing.proofs.Printing.{then, listed}
use Rattle.ff_printing.proofs.printer.Printer.labelled.Goals as goal

pub returns : goal.returns
returns g c = listed (g.H.Worded.word_of c.args.head) (string c.args.text.now ∷ []) c.open.ensures (then c.string.ensures c.close_list.ensures)
