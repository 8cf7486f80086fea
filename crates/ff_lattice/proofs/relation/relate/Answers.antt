use Rattle.ff_lattice.proofs.Tables.{relates_set}
use Rattle.ff_lattice.proofs.relation.relate.Goals as goal

pub returns : goal.returns
returns c = relates_set _ _ _ c.index-rows-low.result c.with.result c.requires.rows c.requires.low c.requires.high c.with.ensures
