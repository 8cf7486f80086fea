use Rattle.std.proofs.Common.{◌∷◌, []}
use Rattle.ff_forms.specs.Canonical.{string}
use Rattle.ff_printing.proofs.Printing.{then, opened}
use Rattle.ff_printing.proofs.print_shown_part.print_pair.Goals as goal

pub returns : goal.returns
returns c = opened [] (string c.args.pair.now.key) (string c.args.pair.now.value ∷ []) c.bytes.ensures (then c.quoted.ensures (then c.string.ensures c.close_list.ensures))
