use Rattle.ff_nodes.proofs.Marking.{within_first, within_second}
use Rattle.ff_nodes.proofs.marks.Marks.with.Goals as goal

pub returns-clause-mine : goal.returns-clause-mine
returns-clause-mine c = record { names = within_first c.args.self.names c.args.other.names; kinds = within_first c.args.self.kinds c.args.other.kinds }

pub returns-clause-others : goal.returns-clause-others
returns-clause-others c = record { names = within_second c.args.self.names c.args.other.names; kinds = within_second c.args.self.kinds c.args.other.kinds }
