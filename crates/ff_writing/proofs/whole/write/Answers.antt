use Rattle.ff_writing.proofs.Writing.{put_whole, put_part}
use Rattle.ff_writing.proofs.whole.write.Goals as goal

pub returns-in-Ok-put_all-clause-put : goal.returns-in-Ok-put_all-clause-put
returns-in-Ok-put_all-clause-put g c =
    rw (c.in-Ok.is, g.met.P.Port.tells c.args.port.now, g.met.P.Port.tells c.put_all.new.port, c.put_all.ensures.rest, c.put_all.ensures.others)
    (put_whole c.in-Ok.text.items _ _ _ _ _ _ c.as_slice.result.now c.as_slice.ensures.value c.put_all.result c.put_all.ensures.pieces c.in-Ok-put_all.field-0 c.in-Ok-put_all.is)

pub returns-clause-put : goal.returns-clause-put
returns-clause-put g c =
    rw (c.in-Ok.is, g.met.P.Port.tells c.args.port.now, g.met.P.Port.tells c.put_all.new.port, c.put_all.ensures.rest, c.put_all.ensures.others)
    (put_part c.in-Ok.text.items _ _ _ _ _ _ c.as_slice.result.now c.as_slice.ensures.value c.put_all.result c.put_all.ensures.pieces c.in-Err.field-0 c.in-Err.is c.put_all.ensures.cause)
