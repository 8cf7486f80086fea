use Rattle.std.proofs.Common.{ap}
use Rattle.std.specs.Rc.{rc_value}
use Rattle.std.specs.List.{flat_map}
use Rattle.ff_cow.proofs.Shared.{same_nodes}
use Rattle.ff_cow.proofs.branch.BranchWritable.duplicate.Goals as goal

pub returns-clause-cells : goal.returns-clause-cells
returns-clause-cells g c =
    ap (flat_map g.T.Layer.cells) (same_nodes rc_value c.args.self.now.kids.items c.in_ok-clone.field-0.items c.in_ok-clone.ensures.cases.0)

pub returns-clause-valid : goal.returns-clause-valid
returns-clause-valid g c =
    rw (same_nodes rc_value c.args.self.now.kids.items c.in_ok-clone.field-0.items c.in_ok-clone.ensures.cases.0) c.requires.valid
