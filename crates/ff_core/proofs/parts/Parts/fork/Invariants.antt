use Rattle.std.proofs.Common.{◌≡◌, map}
use Rattle.ff_core.proofs.parts.Parts.fork.Given as goal

-- the tasks so far are forked
abbrev pub invariant-loop-task : goal.invariant-loop-task
invariant-loop-task g l = l.tasks.items ≡ map (λ task. task.now) l.yielded
