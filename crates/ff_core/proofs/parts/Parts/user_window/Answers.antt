use Rattle.std.proofs.Common.{ap, ◌∙◌, slice_get}
use Rattle.ff_machine.specs.State.{State}
use Rattle.ff_machine.specs.Windows.{Windows}
use Rattle.ff_core.proofs.Pointed.{window_open}
use Rattle.ff_core.proofs.parts.Parts.user_window.Goals as goal

pub returns-clause-open : goal.returns-clause-open
returns-clause-open c =
    window_open c.args.self.now c.args.at c.at.result
    (c.at.ensures ∙ ap (λ (w : Windows). slice_get w.opened c.args.at) c.windows.ensures.value ∙ ap (λ (t : State). slice_get t.stores.windows.opened c.args.at) c.self.view_is)
