use Rattle.std.proofs.Common.{sym}
use Rattle.ff_io.proofs.TapeLemmas.{put_of-replay}
use Rattle.ff_io.proofs.tape.Tape.put.Goals as goal

pub returns : goal.returns
returns c =
    let t = c.self.inside in
    rw (← c.self.view_is, c.deref.ensures.value) (sym (put_of-replay t.steps.items t.got.items t.put.items c.self.invariant.put_all))
