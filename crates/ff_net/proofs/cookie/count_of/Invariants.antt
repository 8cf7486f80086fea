use Rattle.std.proofs.Common.{◌≡◌, ◌≤◌, count_by, take}
use Rattle.ff_net.specs.Cookies.{is_of}
use Rattle.ff_net.proofs.cookie.count_of.Given as goal

abbrev pub invariant-loop-i : goal.invariant-loop-i
invariant-loop-i l = (l.count ≡ count_by (is_of l.domain) (take l.i l.cookies)) × (l.count ≤ l.i)
