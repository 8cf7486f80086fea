use Rattle.std.proofs.Common.{◌∷◌, []}
use Rattle.ff_forms.specs.Canonical.{address, word}
use Rattle.ff_forms.specs.Heads.{doc_word}
use Rattle.ff_forms.specs.declared.heads.DocHead.TheVariants as doc_head
use Rattle.ff_printing.proofs.Printing.{then, listed}
use Rattle.ff_printing.proofs.print_tree.print_src.Goals as goal

pub returns : goal.returns
returns c = listed (doc_word doc_head.Src) (word c.args.name.now ∷ address c.args.url.now ∷ []) c.open.ensures (then c.name.ensures (then c.address.ensures c.close_list.ensures))
