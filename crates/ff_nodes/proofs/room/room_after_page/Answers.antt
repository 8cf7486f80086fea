use Rattle.std.proofs.Common.{suc, map, refl, ◌∙◌}
use Rattle.ff_machine.specs.Documents.{laid, size_of}
use Rattle.ff_nodes.proofs.Rooms.{left_under}
use Rattle.ff_nodes.proofs.room.room_after_page.Goals as goal

pub returns : goal.returns
returns c = λ page env.
    let rest = size_of (map (laid env) c.args.docs.now) in
    c.room_after_all.ensures env ∙ left_under c.args.room c.in_ok-checked_sub.field-0 rest (suc rest) refl c.in_ok-checked_sub.ensures
