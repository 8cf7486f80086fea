use Rattle.ff_shared.specs.Content.{same_content-is}
use Rattle.ff_value.specs.contracts.output.ShownPart.{the_row}
use Rattle.ff_value.proofs.output.ShownPartPartialEq.TheImpl.Goals as goal

pub eq-tells : goal.eq-tells
eq-tells c = same_content-is the_row.coded c.args.self.now c.args.other.now c.result c.ensures
