use Rattle.ff_frames.specs.Bindings.{bound}
use Rattle.ff_frames.proofs.Rewriting.{kept-by}
use Rattle.ff_frames.proofs.control.Control.keep.Goals as goal

pub returns-clause-done : goal.returns-clause-done
returns-clause-done c =
    kept-by bound c.keep-done.result c.kept.result c.self.inside.stack c.keep-done.new.self c.kept.new.stack c.args.self.now
    c.kept.ensures.answer c.kept.ensures.kept c.keep-done.ensures.rewrites c.self.view_is
