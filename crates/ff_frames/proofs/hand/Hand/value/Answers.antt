use Rattle.std.proofs.Common.{ap, Some}
use Rattle.ff_frames.proofs.Holding.{last-read}
use Rattle.ff_frames.proofs.hand.Hand.value.Goals as goal

pub returns-in-Some-last : goal.returns-in-Some-last
returns-in-Some-last c =
    let hand = c.args.self.now in
    rw c.in-None.is (ap Some (last-read hand.values.items hand.null c.in-Some-last.value.now (rw c.deref.ensures.value at c.in-Some-last.ensures.value)))
