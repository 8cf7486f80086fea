use Rattle.std.proofs.Common.{◌≡◌, ℕ, ◌<◌, false, [], get_or}
use Rattle.ff_net.specs.Asks.{is_to}
use Rattle.ff_net.proofs.asked.place_to.Given as goal

-- no row before this one passes
abbrev pub invariant-loop-i : goal.invariant-loop-i
invariant-loop-i l = (k : ℕ) → k < l.i → is_to l.domain (get_or l.rows k ([], [])) ≡ false
