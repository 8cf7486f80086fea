use Rattle.std.proofs.Common.{sym, refl, append-nil}
use Rattle.ff_step.proofs.Reductions.{done_reduction}
use Rattle.ff_step.proofs.reducing.reduce_once.Goals as goal

pub returns-in_ok-copy-in-Some-clause-reduces : goal.returns-in_ok-copy-in-Some-clause-reduces
returns-in_ok-copy-in-Some-clause-reduces g c =
    rw (c.in_ok-copy-in-Some.ensures, done_reduction c.args.stores.now c.args.page c.args.control.now c.in-Some.v.now c.in-Some.ensures)
    (refl, refl, refl, sym (append-nil c.args.outs.now.items))
