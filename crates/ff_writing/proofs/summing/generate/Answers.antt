use Rattle.ff_writing.proofs.Drawing.{generated}
use Rattle.ff_writing.proofs.summing.generate.Goals as goal

pub returns-clause-generates : goal.returns-clause-generates
returns-clause-generates g c = generated c.args.policy.now c.args.start c.args.inputs c.args.turns.now c.summed.new.turns c.summed.result _ _ c.write.result c.summed.ensures.ran c.summed.ensures.most c.write.ensures.put c.write.ensures.no_memory c.write.ensures.untouched
