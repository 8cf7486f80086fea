use Rattle.std.proofs.Common.{◌≡◌}
use Rattle.ff_value.specs.declared.ids.ActId.{ActId}
use Rattle.ff_nodes.specs.Room.{room_left}
use Rattle.ff_nodes.proofs.Rooms.{size_from}
use Rattle.ff_nodes.proofs.room.+room.Given as goal

abbrev pub invariant-room_after_all-loop-doc : goal.invariant-room_after_all-loop-doc
invariant-room_after_all-loop-doc l = (env : ActId) → room_left l.left (size_from env l.docs l.doc-index) ≡ room_left l.fn.room (size_from env l.docs 0)
