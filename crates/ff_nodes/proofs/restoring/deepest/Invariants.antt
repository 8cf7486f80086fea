use Rattle.std.proofs.Common.{◌≤◌, take}
use Rattle.std.specs.List.{All}
use Rattle.ff_nodes.proofs.restoring.deepest.Given as goal

abbrev pub invariant-loop-depth : goal.invariant-loop-depth
invariant-loop-depth l = All (λ d. d ≤ l.most) (take l.depth-index l.depths)
