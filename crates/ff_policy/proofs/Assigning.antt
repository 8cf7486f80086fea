-- The levels of keys, one after another.
use Rattle.std.proofs.Common.{◌≡◌, ℕ, ◌+◌, List, ◌++◌, drop, Result, Ok, Err}
use Rattle.ff_lattice.specs.Order.{Order}
use Rattle.ff_policy.specs.declared.fault.PolicyFault.{PolicyFault}
use Rattle.ff_policy.specs.Assignment.{Key}
use Rattle.ff_policy.specs.Members.{Named}
use Rattle.ff_policy.specs.Naming.{keys_named}

abbrev after : List Key → Result (List Key) PolicyFault → Result (List Key) PolicyFault
after so_far (Ok keys) = Ok (so_far ++ keys)
after so_far (Err fault) = Err fault

-- the levels of all are those so far and then those of the keys that are left
pub record Assigns (order : Order) (all : List Named) (so_far : List Key) (i : ℕ) : Type 0 where
  pub is : keys_named order all ≡ after so_far (keys_named order (drop i all))
