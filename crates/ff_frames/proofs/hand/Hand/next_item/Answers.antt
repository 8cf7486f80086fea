use Rattle.ff_frames.proofs.Holding.{held-for}
use Rattle.ff_frames.proofs.hand.Hand.next_item.Goals as goal

pub returns : goal.returns
returns c =
    held-for c.args.list.now c.args.at c.args.count c.args.self.now c.drop_last.new.self c.hold_item.new.self _ c.requires.within c.drop_last.ensures.left c.in_ok-hold_item.ensures
