use Rattle.std.proofs.Common.{◌∷◌, [], ◌∙◌}
use Rattle.ff_forms.specs.Canonical.{word}
use Rattle.ff_printing.proofs.Printing.{then, opened, prints_word}
use Rattle.ff_printing.proofs.printer.Printer.parameter.Goals as goal

pub returns : goal.returns
returns c =
    opened (32 ∷ []) (word c.args.name.now) [] c.bytes.ensures
    (then (prints_word c.args.name.now (c.as_bytes.ensures.value ∙ c.text.ensures.value) c.bytes-2.ensures) c.close_list.ensures)
