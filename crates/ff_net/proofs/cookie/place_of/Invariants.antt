use Rattle.std.proofs.Common.{◌≡◌, ℕ, ◌<◌, false, [], get_or}
use Rattle.ff_net.specs.Cookies.{is_at}
use Rattle.ff_net.proofs.cookie.place_of.Given as goal

-- no cookie before this one passes
abbrev pub invariant-loop-i : goal.invariant-loop-i
invariant-loop-i l = (k : ℕ) → k < l.i → is_at l.domain l.key (get_or l.cookies k (([], []), [])) ≡ false
