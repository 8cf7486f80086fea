-- How many cells a low root has at most.
use Rattle.std.proofs.Common.{◌≤◌, length, map, arith}
use Rattle.std.specs.Rc.{rc_value}
use Rattle.ff_cow.specs.declared.branch.Branch.{Branch}
use Rattle.ff_cow.specs.declared.leaf.Leaf.{Leaf}
use Rattle.ff_cow.specs.Tower.{branch_cells, leaf_cells, IsBranch, IsLeaf}
use Rattle.ff_cow.proofs.Packed.{length_at_most}

pub low_fits : {V : Type 0} (node : Branch (Leaf V)) → IsBranch 16 leaf_cells IsLeaf node → length (branch_cells leaf_cells node) ≤ 256
low_fits node valid =
    let most = length_at_most leaf_cells 16 (map rc_value node.kids.items) valid.packed in
    let few = valid.narrow in
    omega arith
