use Rattle.std.proofs.Common.{◌∷◌, ◌∙◌, ap}
use Rattle.std.proofs.lemmas.List.{nil_from_length}
use Rattle.ff_forms.specs.Canonical.{cookies_item}
use Rattle.ff_printing.specs.Pieces.{after_blank}
use Rattle.ff_printing.proofs.Printing.{prints_as, spelled-none}
use Rattle.ff_printing.proofs.print_reply.print_cookies.Goals as goal

pub returns-in-None : goal.returns-in-None
returns-in-None c = prints_as (after_blank (cookies_item c.args.cookies.now)) (ap (λ xs. after_blank (cookies_item xs)) (nil_from_length c.args.cookies.now c.in-None.ensures.cases) ∙ ap (λ bs. 32 ∷ bs) spelled-none) c.bytes.ensures
