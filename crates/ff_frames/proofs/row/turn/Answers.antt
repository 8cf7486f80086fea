use Rattle.std.proofs.Common.{◌+◌}
use Rattle.ff_frames.specs.declared.frame.Head.TheVariants as head
use Rattle.ff_frames.proofs.Locals.{do-at, rest-at, turned-next}
use Rattle.ff_frames.proofs.row.turn.Goals as goal

pub returns-in_ok-next_item-in-Do : goal.returns-in_ok-next_item-in-Do
returns-in_ok-next_item-in-Do c =
    let es = c.in-Do.parts in
    let n = c.in-Do.at in
    rw c.in-Do.is (turned-next (head.Do es n) (head.Do es (n + 1)) es n c.args.hand.now c.next_item.new.self (do-at es n) (rest-at es n) c.in_ok-next_item-in-Do.ensures)
