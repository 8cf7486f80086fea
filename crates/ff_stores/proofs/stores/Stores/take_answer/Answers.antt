use Rattle.ff_stores.specs.Views.{stores_of}
use Rattle.ff_stores.proofs.Changed.{answer_valid}
use Rattle.ff_stores.proofs.stores.Stores.take_answer.Goals as goal

pub invariant_of-self : goal.invariant_of-self
invariant_of-self g c = answer_valid (stores_of c.self.inside) c.args.domain.now c.args.k c.in-Ok-or_emptied.field-0 c.answer.new.self c.self.invariant c.in-Ok-or_emptied.ensures.done
