use Rattle.std.proofs.Common.{sym}
use Rattle.std.proofs.lemmas.Result.{err_from_is_err_and}
use Rattle.ff_machine.specs.Stores as stores
use Rattle.ff_core.specs.Views.{state_of}
use Rattle.ff_core.proofs.Lifted.{room_made, room_refused}
use Rattle.ff_core.proofs.parts.Parts.loads.Goals as goal

pub returns-in_err-load-clause-step : goal.returns-in_err-load-clause-step
returns-in_err-load-clause-step g c =
    let p = err_from_is_err_and c.from_residual.result c.from_residual.ensures.1 in
    let s = state_of c.self.inside in
    rw (sym c.self.view_is, p.1)
    (room_refused s c.load.new.self c.args.outs.now.items c.load.new.outs.items _ (Unit {0}) p.0 (stores.load s.stores c.args.window c.args.from.now c.args.docs.now) c.in_err-load.ensures.step)

pub returns-clause-step : goal.returns-clause-step
returns-clause-step g c =
    let s = state_of c.self.inside in
    rw (sym c.self.view_is)
    (room_made s c.load.new.self c.args.outs.now.items c.load.new.outs.items _ (Unit {0}) c.in_ok-load.field-0 tt (stores.load s.stores c.args.window c.args.from.now c.args.docs.now) c.in_ok-load.ensures.step)
