use Rattle.std.proofs.Common.{◌∙◌, ap}
use Rattle.ff_term.specs.Running.{Evaluation, insides}
use Rattle.ff_term.specs.Calls.{calls_around}
use Rattle.ff_frames.proofs.Rewriting.{deep, all-around}
use Rattle.ff_frames.proofs.control.Control.depth.Goals as goal

pub returns-clause-count : goal.returns-clause-count
returns-clause-count c = deep c.self.inside.stack c.self.invariant ∙ ap (λ (e : Evaluation). insides e.expr) c.self.view_is

pub returns-clause-around : goal.returns-clause-around
returns-clause-around c = all-around c.self.inside.stack c.self.invariant ∙ ap (λ (e : Evaluation). calls_around e.expr) c.self.view_is
