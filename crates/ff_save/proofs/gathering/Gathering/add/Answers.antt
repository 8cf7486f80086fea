use Rattle.std.proofs.Common.{arith}
use Rattle.ff_save.specs.Holding.{held_by}
use Rattle.ff_save.proofs.Collecting.{class_row, stores_row}
use Rattle.ff_save.proofs.gathering.Gathering.add.Goals as goal

pub returns-in-Class-clause-value : goal.returns-in-Class-clause-value
returns-in-Class-clause-value g c gathered holds = class_row c.args.self.now.fuel gathered c.args.row c.in-Class.levels (held_by g.B.Reactor.state c.begin_class.new.self) c.begin_class.result c.in-Class.is (c.begin_class.ensures.value gathered holds)

pub returns-in_default : goal.returns-in_default
returns-in_default g c = record {
  value = λ gathered holds. stores_row c.args.self.now.fuel gathered c.args.row c.in_default.not-Head c.in_default.not-Policy c.in_default.not-Class c.in_default.not-End (held_by g.B.Reactor.state c.args.self.now) holds c.add.new.self c.add.result c.add.ensures;
  later = omega arith;
}
