use Rattle.std.proofs.Common.{◌∷◌, [], map}
use Rattle.ff_forms.specs.Canonical.{cookie_item}
use Rattle.ff_printing.proofs.Printing.{then, opened, ended}
use Rattle.ff_printing.proofs.print_reply.print_entries.Goals as goal

pub returns : goal.returns
returns c = opened (32 ∷ []) (cookie_item c.args.first.now) (map cookie_item c.args.rest.now) c.bytes.ensures (then c.print_entry.ensures (ended cookie_item c.args.rest.now c.print_further.ensures c.close_list.ensures))
