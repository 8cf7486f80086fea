use Rattle.std.proofs.Common.{◌≡◌}
use Rattle.ff_travel.specs.Beside.{none_put}
use Rattle.ff_travel.proofs.steps.no_outputs.Given as goal

abbrev pub invariant-loop-level : goal.invariant-loop-level
invariant-loop-level l = l.puts.items ≡ none_put l._level
