use Rattle.std.proofs.Common.{◌≡◌, take, fold}
use Rattle.ff_acts.specs.Digits.{spread_more}
use Rattle.ff_acts.proofs.digits.spread_of.Given as goal

-- the bytes before this one are spread
abbrev pub invariant-loop-b : goal.invariant-loop-b
invariant-loop-b l = l.sum ≡ fold spread_more 0 (take l.b-index l.b-items)
