use Rattle.std.proofs.Common.{sym, subst}
use Rattle.std.specs.List.{IsDistinct}
use Rattle.ff_machine.proofs.Empty.{empty_valid}
use Rattle.ff_net.specs.Cookies.{AreCookies}
use Rattle.ff_net.proofs.jar.Jar.new.Goals as goal

pub invariant_of-result : goal.invariant_of-result
unfolding IsDistinct
invariant_of-result c = subst AreCookies (sym c.new.ensures) (record { apart = tt; valid = empty_valid.jar })
