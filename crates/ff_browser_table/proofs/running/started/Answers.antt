use Rattle.std.proofs.Common.{◌<◌, length, arith, ap, sym, subst}
use Rattle.ff_term.specs.Running.{Evaluation}
use Rattle.ff_value.specs.declared.ids.ActId.{ActId}
use Rattle.ff_machine.specs.Windows.{Windows}
use Rattle.ff_browser_table.specs.Ready.{IsReady}
use Rattle.ff_browser_table.proofs.Stepping.{begun}
use Rattle.ff_browser_table.proofs.running.started.Goals as goal

pub returns : goal.returns
returns c =
    let next = ap (λ (a : ActId). a.0) c.next_act.ensures in
    let same = ap (λ (w : Windows). length w.acts) c.windows.ensures.value in
    let lives : c.args.act.0 < length c.args.stores.now.windows.acts = omega (arith, next, same) in
    subst (λ (t : Evaluation). IsReady c.args.stores.now t) (sym c.in_ok-start.ensures.done) (begun c.args.stores.now c.args.act c.args.body.now lives c.requires)
