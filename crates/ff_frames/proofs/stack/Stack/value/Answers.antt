use Rattle.ff_frames.proofs.Rewriting.{alone-value, value-framed}
use Rattle.ff_frames.proofs.stack.Stack.value.Goals as goal

pub returns-in-Some : goal.returns-in-Some
returns-in-Some c = let top = c.in-Some.ensures in value-framed c.args.self.now top.0 _ top.1

pub returns-in-None : goal.returns-in-None
returns-in-None c = alone-value c.args.self.now _ c.requires c.in-None.ensures c.value.ensures
