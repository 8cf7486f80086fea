use Rattle.std.proofs.Common.{arith}
use Rattle.ff_travel.proofs.showing.print_if_in.Goals as goal

pub has-requires : goal.has-requires
has-requires c = let few = c.name-name.ensures.valid.few in omega arith
