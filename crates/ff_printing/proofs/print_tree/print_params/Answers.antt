use Rattle.std.proofs.Common.{◌∷◌, ◌∙◌, ap, map}
use Rattle.std.proofs.lemmas.List.{nil_from_length}
use Rattle.ff_forms.specs.Canonical.{word, parens}
use Rattle.ff_printing.specs.Pieces.{after_blank}
use Rattle.ff_printing.proofs.Printing.{prints_as, spelled-none}
use Rattle.ff_printing.proofs.print_tree.print_params.Goals as goal

pub returns-in-None : goal.returns-in-None
returns-in-None c = prints_as (after_blank (parens (map word c.args.params.now))) (ap (λ xs. after_blank (parens (map word xs))) (nil_from_length c.args.params.now c.in-None.ensures.cases) ∙ ap (λ bs. 32 ∷ bs) spelled-none) c.bytes.ensures
