use Rattle.std.proofs.Common.{◌≡◌, take}
use Rattle.ff_tree.specs.Weight.{capped}
use Rattle.ff_value.specs.Weight.{cookies_weight}
use Rattle.ff_value.proofs.weigh.weight_cookies.Given as goal

abbrev pub invariant-loop-entry : goal.invariant-loop-entry
invariant-loop-entry l = l.total ≡ capped (cookies_weight (take l.entry-index l.cookies))
