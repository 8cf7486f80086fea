use Rattle.std.proofs.Common.{◌≡◌, map, take}
use Rattle.ff_machine.specs.Documents.{handler_code}
use Rattle.ff_nodes.proofs.laying.codes_of.Given as goal

abbrev pub invariant-loop-handler : goal.invariant-loop-handler
invariant-loop-handler l = l.codes.items ≡ map (handler_code l.fn.env) (take l.handler-index l.handlers)
