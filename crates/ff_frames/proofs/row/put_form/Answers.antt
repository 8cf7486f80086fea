use Rattle.std.proofs.lemmas.Result.{on_ok_weaker}
use Rattle.ff_frames.proofs.Locals.{put-test, put-untested}
use Rattle.ff_frames.proofs.row.put_form.Goals as goal

pub returns-in_ok-push : goal.returns-in_ok-push
returns-in_ok-push c =
    put-test c.args.form c.args.heads.now.items _ c.args.hand.now c.hold_test.new.hand (rw (c.get.ensures, c.if-held.true) at c.in_ok-held.ensures) c.in_ok-push.ensures.items

pub returns-else-held : goal.returns-else-held
returns-else-held c =
    on_ok_weaker c.hold_value.result
    (put-untested c.args.form c.args.heads.now.items c.args.hand.now c.hold_test.new.hand c.hold_value.new.self
    (rw (c.get.ensures, c.if-held.false) at c.in_ok-held.ensures) c.requires.row c.requires.local)
    c.hold_value.ensures
