use Rattle.std.proofs.Common.{rules, ◌≡◌, ◌<◌, sym}
use Rattle.ff_lattice.specs.Order.{size, name, numbered}
use Rattle.ff_lattice.proofs.Named.{level_found}
use Rattle.ff_lattice.proofs.lattice.Lattice.by_name.Goals as goal

pub returns-then-eq-clause-value : goal.returns-then-eq-clause-value
returns-then-eq-clause-value c =
    let is : name c.args.self.now c.loop-number.number ≡ c.args.bytes.now = search rules in
    let within : c.loop-number.number < size c.args.self.now = search rules in
    sym (level_found c.args.self.now c.args.bytes.now (numbered c.loop-number.number) c.name.ensures.valid within is)
