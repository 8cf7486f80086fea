use Rattle.std.proofs.Common.{nat_abs}
use Rattle.ff_machine.proofs.Joining.{may_join, joined_nodes}
use Rattle.ff_machine.proofs.validity.a_joined_tree_leaves_valid_nodes.Goals as goal

pub returns : goal.returns
returns e nodes p c at are p_there c_there none = joined_nodes nodes are.trees p c (nat_abs at) p_there c_there (may_join nodes p c at none) are
