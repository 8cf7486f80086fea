use Rattle.std.proofs.Common.{◌∷◌, []}
use Rattle.ff_forms.specs.Canonical.{string, word}
use Rattle.ff_forms.specs.Heads.{doc_word}
use Rattle.ff_forms.specs.declared.heads.DocHead.TheVariants as doc_head
use Rattle.ff_printing.proofs.Printing.{then, listed}
use Rattle.ff_printing.proofs.print_tree.print_text.Goals as goal

pub returns : goal.returns
returns c = listed (doc_word doc_head.Text) (word c.args.name.now ∷ string c.args.text.now ∷ []) c.open.ensures (then c.name.ensures (then c.string.ensures c.close_list.ensures))
