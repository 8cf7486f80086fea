use Rattle.std.proofs.Common.{◌∙◌, ap}
use Rattle.ff_value.specs.Offers.{all_offered}
use Rattle.ff_route.proofs.Fits.{offers_more}
use Rattle.ff_route.proofs.route.offers.Goals as goal

pub loop-number-preserved : goal.loop-number-preserved
loop-number-preserved c =
    ap (all_offered c.args.input.now) c.in_ok-push.ensures.items ∙ offers_more c.args.policy.now c.args.input.now c.loop-number.offers.items c.loop-number.number c.in_ok-seen_at.field-0 c.loop-number.invariant c.in_ok-seen_at.ensures.value
