use Rattle.std.proofs.Common.{◌∷◌, [], map, ◌∙◌}
use Rattle.ff_forms.specs.Canonical.{word}
use Rattle.ff_printing.proofs.Printing.{then, opened, ended, prints_word}
use Rattle.ff_printing.proofs.print_tree.print_some_params.Goals as goal

pub returns : goal.returns
returns c =
    opened (32 ∷ []) (word c.args.first.now) (map word c.args.rest.now) c.bytes.ensures
    (then (prints_word c.args.first.now (c.as_bytes.ensures.value ∙ c.text.ensures.value) c.bytes-2.ensures)
    (ended word c.args.rest.now c.print_names.ensures c.close_list.ensures))
