use Rattle.std.proofs.Common.{◌≡◌, take}
use Rattle.ff_nodes.proofs.node.Node.handlers_with.Given as goal

abbrev pub invariant-loop-handler : goal.invariant-loop-handler
invariant-loop-handler l = l.handlers.items ≡ take l.handler-index l.handler-items
