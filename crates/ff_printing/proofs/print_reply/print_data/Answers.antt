use Rattle.std.proofs.Common.{◌∷◌, []}
use Rattle.ff_forms.specs.Canonical.{cookies_item, string}
use Rattle.ff_forms.specs.Heads.{resp_word}
use Rattle.ff_forms.specs.declared.heads.RespHead.TheVariants as resp_head
use Rattle.ff_printing.proofs.Printing.{then, listed}
use Rattle.ff_printing.proofs.print_reply.print_data.Goals as goal

pub returns : goal.returns
returns c = listed (resp_word resp_head.Data) (cookies_item c.args.cookies.now ∷ string c.args.text.now ∷ []) c.open.ensures (then c.print_cookies.ensures (then c.string.ensures c.close_list.ensures))
