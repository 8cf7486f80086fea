use Rattle.ff_shared.specs.Content.{same_content-is}
use Rattle.ff_value.specs.Same.{same_input}
use Rattle.ff_value.specs.contracts.input.Input as input
use Rattle.ff_value.proofs.offers.same_input.Goals as goal

pub returns : goal.returns
unfolding same_input
returns c = same_content-is input.the_row.coded c.args.x.now c.args.y.now c.eq.result c.eq.ensures
