use Rattle.ff_term.specs.Rows.{branch}
use Rattle.ff_frames.proofs.Rewriting.{kept-by}
use Rattle.ff_frames.proofs.control.Control.choose.Goals as goal

pub returns-clause-done : goal.returns-clause-done
returns-clause-done c =
    kept-by (branch c.args.yes) c.choose-done.result c.kept.result c.self.inside.stack c.choose-done.new.self c.kept.new.stack c.args.self.now
    c.kept.ensures.answer c.kept.ensures.kept c.choose-done.ensures.rewrites c.self.view_is
