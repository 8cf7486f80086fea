use Rattle.std.proofs.Common.{◌∙◌, ap}
use Rattle.ff_term.specs.Running.{Evaluation, innermost}
use Rattle.ff_frames.proofs.Rewriting.{active}
use Rattle.ff_frames.proofs.control.Control.act.Goals as goal

pub returns : goal.returns
returns c = active c.self.inside.stack ∙ ap (λ (e : Evaluation). innermost e.base e.expr) c.self.view_is
