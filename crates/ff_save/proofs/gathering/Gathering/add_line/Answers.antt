use Rattle.std.proofs.Common.{arith}
use Rattle.ff_save.specs.Holding.{held_by}
use Rattle.ff_save.proofs.Collecting.{line_row}
use Rattle.ff_save.proofs.gathering.Gathering.add_line.Goals as goal

pub returns-in-Ok-clause-value : goal.returns-in-Ok-clause-value
returns-in-Ok-clause-value g c gathered holds =
    line_row c.args.lattice.now c.args.self.now.fuel gathered c.args.line.now c.read_row.result c.read_row.ensures.found c.read_row.ensures.only c.in-Ok.row c.in-Ok.is (omega (arith, c.if-line-gt-MOST_BYTES.false)) (held_by g.B.Reactor.state c.add.new.self) c.add.result (c.add.ensures.value gathered holds)
