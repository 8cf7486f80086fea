use Rattle.std.proofs.Common.{◌∙◌, ap}
use Rattle.std.proofs.lemmas.List.{nil_from_length}
use Rattle.ff_forms.specs.Canonical.{pairs_item}
use Rattle.ff_text.specs.Printed.{spelled}
use Rattle.ff_printing.proofs.Printing.{prints_as, spelled-none}
use Rattle.ff_printing.proofs.print_shown_part.print_pairs.Goals as goal

pub returns-in-None : goal.returns-in-None
returns-in-None c = prints_as (spelled (pairs_item c.args.pairs.now)) (ap (λ xs. spelled (pairs_item xs)) (nil_from_length c.args.pairs.now c.in-None.ensures.cases) ∙ spelled-none) c.bytes.ensures
