use Rattle.ff_printing.proofs.Printing.{appended}
use Rattle.ff_save.specs.Saved.{saved_recs, saved_text}
use Rattle.ff_save.proofs.write.write_saved.Goals as goal

pub returns : goal.returns
returns g c =
    appended c.in_ok-printer.printer c.write_rows.new.out c.end.result c.args.out.now.items c.end.new.out.items (saved_text c.args.policy.now (saved_recs c.args.pool.now)) c.in_ok-printer.ensures.done.0 c.in_ok-printer.ensures.done.1 c.end.ensures.bytes c.end.ensures.done c.end.ensures.failed c.write_rows.ensures
