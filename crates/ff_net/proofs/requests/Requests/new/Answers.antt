use Rattle.std.proofs.Common.{sym, subst, refl, arith}
use Rattle.std.specs.List.{IsDistinct}
use Rattle.ff_machine.proofs.Empty.{empty_valid}
use Rattle.ff_net.specs.Asks.{AreCounted}
use Rattle.ff_net.proofs.requests.Requests.new.Goals as goal

pub invariant_of-result : goal.invariant_of-result
unfolding IsDistinct
invariant_of-result c = subst (λ rows. AreCounted rows 0) (sym c.new.ensures) (record { apart = tt; counted = refl; few = omega arith; valid = empty_valid.requests })
