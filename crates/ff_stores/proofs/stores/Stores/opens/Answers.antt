use Rattle.std.proofs.Common.{None}
use Rattle.std.proofs.lemmas.Result.{err_from_is_err_and}
use Rattle.ff_machine.specs.Stores as stores
use Rattle.ff_machine.specs.Windows as windows
use Rattle.ff_stores.proofs.Opening.{room_refused}
use Rattle.ff_stores.proofs.stores.Stores.opens.Goals as goal

pub returns-in_err-open_window-clause-step : goal.returns-in_err-open_window-clause-step
returns-in_err-open_window-clause-step g c =
    let p = err_from_is_err_and c.from_residual.result c.from_residual.ensures.1 in
    rw p.1 (room_refused _ c.args.self.now c.args.outs.now.items (stores.send_first c.args.url.now (windows.next_win c.args.self.now.windows)) c.open_window.new.self c.open_window.new.outs.items (Unit {0}) p.0 (stores.open_window c.args.self.now None None) c.in_err-open_window.ensures.step)
