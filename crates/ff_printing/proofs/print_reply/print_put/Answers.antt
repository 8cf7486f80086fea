use Rattle.std.proofs.Common.{◌∷◌, []}
use Rattle.ff_forms.specs.Canonical.{string}
use Rattle.ff_forms.specs.Heads.{cookie_word}
use Rattle.ff_forms.specs.declared.heads.CookieHead.TheVariants as cookie_head
use Rattle.ff_printing.proofs.Printing.{then, listed}
use Rattle.ff_printing.proofs.print_reply.print_put.Goals as goal

pub returns : goal.returns
returns c = listed (cookie_word cookie_head.Put) (string c.args.key.now ∷ string c.args.value.now ∷ []) c.open.ensures (then c.string.ensures (then c.string-2.ensures c.close_list.ensures))
