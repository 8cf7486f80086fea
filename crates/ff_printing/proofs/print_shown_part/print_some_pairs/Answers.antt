use Rattle.std.proofs.Common.{[], map}
use Rattle.ff_forms.specs.Canonical.{pair_item}
use Rattle.ff_printing.proofs.Printing.{then, opened, ended}
use Rattle.ff_printing.proofs.print_shown_part.print_some_pairs.Goals as goal

pub returns : goal.returns
returns c = opened [] (pair_item c.args.first.now) (map pair_item c.args.rest.now) c.bytes.ensures (then c.print_pair.ensures (ended pair_item c.args.rest.now c.print_further_pairs.ensures c.close_list.ensures))
