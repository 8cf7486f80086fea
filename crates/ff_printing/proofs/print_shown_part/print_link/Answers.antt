use Rattle.std.proofs.Common.{◌∷◌, []}
use Rattle.ff_forms.specs.Canonical.{address, string}
use Rattle.ff_forms.specs.Heads.{doc_word}
use Rattle.ff_forms.specs.declared.heads.DocHead.TheVariants as doc_head
use Rattle.ff_printing.proofs.Printing.{then, listed}
use Rattle.ff_printing.proofs.print_shown_part.print_link.Goals as goal

pub returns : goal.returns
returns c = listed (doc_word doc_head.Link) (address c.args.url.now ∷ string c.args.label.now ∷ []) c.open.ensures (then c.address.ensures (then c.string.ensures c.close_list.ensures))
