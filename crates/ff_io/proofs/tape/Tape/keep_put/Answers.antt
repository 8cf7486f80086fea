use Rattle.ff_io.proofs.TapeLemmas.{put_kept}
use Rattle.ff_io.proofs.tape.Tape.keep_put.Goals as goal

pub invariant_of-self : goal.invariant_of-self
invariant_of-self c =
    let t = c.self.inside in
    let now = c.keep.new in
    let e = c.keep.ensures in
    (put_kept c.keep.result t.steps.items now.steps.items t.got.items t.put.items c.keep.new.side.items c.args.bytes.now c.self.invariant e.side e.steps e.kept).0

pub returns-clause-done : goal.returns-clause-done
returns-clause-done c =
    let t = c.self.inside in
    let now = c.keep.new in
    let e = c.keep.ensures in
    rw (← c.self.view_is)
    (put_kept c.keep.result t.steps.items now.steps.items t.got.items t.put.items c.keep.new.side.items c.args.bytes.now c.self.invariant e.side e.steps e.kept).1
