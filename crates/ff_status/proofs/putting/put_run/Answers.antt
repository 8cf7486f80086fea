use Rattle.std.proofs.Common.{◌<◌, arith, length}
use Rattle.ff_status.proofs.Chain.{failed}
use Rattle.ff_status.proofs.Runs.{run_stops, byte_stops}
use Rattle.ff_status.proofs.Whole.{front_whole, rest_whole}
use Rattle.ff_status.proofs.putting.put_run.Goals as goal

pub returns-in_err-put-clause-stopped : goal.returns-in_err-put-clause-stopped
returns-in_err-put-clause-stopped g c =
    failed c.from_residual.result (run_stops c.args.text.now c.plain_front-n.result c.plain_front-n.ensures.plain c.in_err-put.ensures.stopped)

pub returns-in_err-put_byte-clause-stopped : goal.returns-in_err-put_byte-clause-stopped
returns-in_err-put_byte-clause-stopped g c =
    failed c.from_residual-in_err-put_byte.result
    (byte_stops c.args.text.now c.plain_front-n.result 0 (omega (arith, c.if-n-text.false, c.plain_front-n.ensures.bound)) c.plain_front-n.ensures.plain
    c.in_ok-put.ensures.done c.in_err-put_byte.ensures.stopped)

pub put-requires : goal.put-requires
put-requires g c = front_whole c.args.text.now c.plain_front-n.result c.requires c.plain_front-n.ensures.bound c.plain_front-n.ensures.ascii

pub returns-clause-whole : goal.returns-clause-whole
returns-clause-whole g c =
    let inside : c.plain_front-n.result < length c.args.text.now = omega (arith, c.if-n-text.false, c.plain_front-n.ensures.bound) in
    rest_whole c.args.text.now c.plain_front-n.result c.requires inside (c.plain_front-n.ensures.ascii inside)
