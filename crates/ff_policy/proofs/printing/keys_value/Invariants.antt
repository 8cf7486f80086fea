use Rattle.std.proofs.Common.{◌≡◌, take}
use Rattle.serde_json.specs.View.{members_view}
use Rattle.ff_policy.specs.Printing.{keys_data}
use Rattle.ff_policy.proofs.printing.keys_value.Given as goal

abbrev pub invariant-loop-one : goal.invariant-loop-one
invariant-loop-one l = members_view l.members.entries ≡ keys_data l.lattice (take l.one-index l.keys)
