use Rattle.std.proofs.Common.{◌≡◌, take}
use Rattle.ff_frames.proofs.stack.Stack.copied.Given as goal

abbrev pub invariant-loop-head : goal.invariant-loop-head
invariant-loop-head l = l.heads.items ≡ take l.head-index l.self.heads.items
