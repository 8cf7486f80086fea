use Rattle.ff_term.specs.Rows.{local_row}
use Rattle.ff_frames.proofs.Rewriting.{kept-by}
use Rattle.ff_frames.proofs.control.Control.local.Goals as goal

pub returns-clause-done : goal.returns-clause-done
returns-clause-done c =
    kept-by local_row c.reduce-done.result c.kept.result c.self.inside.stack c.reduce-done.new.self c.kept.new.stack c.args.self.now
    c.kept.ensures.answer c.kept.ensures.kept c.reduce-done.ensures.rewrites c.self.view_is
