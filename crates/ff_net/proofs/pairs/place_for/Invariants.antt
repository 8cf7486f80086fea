use Rattle.std.proofs.Common.{◌≡◌, ◌+◌, drop}
use Rattle.std.specs.List.{position_or_len}
use Rattle.ff_net.specs.Cookies.{is_above}
use Rattle.ff_net.proofs.pairs.place_for.Given as goal

-- the first one is not before this place
abbrev pub invariant-loop-i : goal.invariant-loop-i
invariant-loop-i l = l.i + position_or_len (is_above l.key) (drop l.i l.pairs) ≡ position_or_len (is_above l.key) l.pairs
