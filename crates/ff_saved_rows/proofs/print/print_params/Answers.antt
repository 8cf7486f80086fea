use Rattle.std.proofs.Common.{◌∙◌, map, ap}
use Rattle.ff_forms.specs.Canonical.{word, parens}
use Rattle.std.proofs.lemmas.List.{nil_from_length}
use Rattle.ff_printing.specs.Pieces.{after_blank}
use Rattle.ff_printing.proofs.Printing.{prints_as}
use Rattle.ff_saved_rows.proofs.Printing.{no_names}
use Rattle.ff_saved_rows.proofs.print.print_params.Goals as goal

pub returns-in-None : goal.returns-in-None
returns-in-None c = prints_as (after_blank (parens (map word c.args.names.now))) (ap (λ xs. after_blank (parens (map word xs))) (nil_from_length c.args.names.now c.in-None.ensures.cases) ∙ no_names) c.bytes.ensures
