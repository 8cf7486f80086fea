use Rattle.std.proofs.Common.{sym, subst}
use Rattle.ff_pool.specs.Pooled.{AreOffersTo}
use Rattle.ff_travel.proofs.Carrying.{offers_fit}
use Rattle.ff_travel.proofs.steps.arrive.Goals as goal

pub arrive-requires : goal.arrive-requires
arrive-requires g c unspent = subst (AreOffersTo c.args.pool.now) (sym c.in_ok-seen.ensures) (offers_fit c.args.policy.now c.args.input.now _ c.requires.input c.requires.pool.levels)
