use Rattle.ff_cow.proofs.Edits.{some_cell}
use Rattle.ff_cow.proofs.cow_vec.CowVec.set.Goals as goal

pub returns-in-Ok-clause-done : goal.returns-in-Ok-clause-done
returns-in-Ok-clause-done g c =
    some_cell c.args.self.now c.args.i c.requires (λ cell is. c.in-Ok.ensures.done cell is)
