use Rattle.std.proofs.Common.{◌∷◌, map}
use Rattle.ff_forms.specs.Canonical.{cookies_item, doc_item}
use Rattle.ff_forms.specs.Heads.{resp_word}
use Rattle.ff_forms.specs.declared.heads.RespHead.TheVariants as resp_head
use Rattle.ff_printing.proofs.Printing.{then, listed, ended}
use Rattle.ff_printing.proofs.print_reply.print_page.Goals as goal

pub returns : goal.returns
returns c = listed (resp_word resp_head.Page) (cookies_item c.args.cookies.now ∷ map doc_item c.args.docs.now) c.open.ensures (then c.print_cookies.ensures (ended doc_item c.args.docs.now c.print_docs.ensures c.close_list.ensures))
