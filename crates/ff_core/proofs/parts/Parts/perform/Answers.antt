use Rattle.std.proofs.Common.{sym, ◌∙◌}
use Rattle.ff_machine.specs.Inputs as inputs
use Rattle.ff_core.proofs.Lifted.{given_made}
use Rattle.ff_core.proofs.parts.Parts.perform.Goals as goal

pub returns-in-Some-user_window-3-clause-step : goal.returns-in-Some-user_window-3-clause-step
returns-in-Some-user_window-3-clause-step g c =
    let s = c.args.self.now in
    let puts = c.args.outs.now.items in
    rw c.in-Types.is
    (given_made s c.types.new.self (inputs.user_window s c.in-Types.at) (inputs.types s c.in-Types.n c.in-Types.text) puts puts c.types.result c.in-Some-user_window-3.window
    (sym c.user_window-in-Types.ensures.value ∙ c.in-Some-user_window-3.is) (c.types.ensures.step puts))

pub returns-in-Some-user_window-4-clause-step : goal.returns-in-Some-user_window-4-clause-step
returns-in-Some-user_window-4-clause-step g c =
    let s = c.args.self.now in
    let puts = c.args.outs.now.items in
    rw c.in-Clicks.is
    (given_made s c.clicks.new.self (inputs.user_window s c.in-Clicks.at) (inputs.clicks s c.in-Clicks.n) puts puts c.clicks.result c.in-Some-user_window-4.window
    (sym c.user_window-in-Clicks.ensures.value ∙ c.in-Some-user_window-4.is) (c.clicks.ensures.step puts))
