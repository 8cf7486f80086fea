use Rattle.std.proofs.Common.{◌≡◌, ◌++◌, map, take}
use Rattle.ff_core.specs.Calls.{call_task}
use Rattle.ff_core.proofs.calls.put_calls.Given as goal

-- the functions before this one are to be called
abbrev pub invariant-loop-code : goal.invariant-loop-code
invariant-loop-code l = l.tasks.items ≡ l.initial.tasks.items ++ map (call_task l.page l.act l.arg) (take l.code-index l.codes)
