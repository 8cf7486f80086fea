use Rattle.std.proofs.Common.{◌/◌, ◌^◌, fold, ap, ◌∙◌}
use Rattle.std.proofs.lemmas.List.{take_all}
use Rattle.ff_acts.specs.Digits.{spread, spread_more}
use Rattle.ff_acts.proofs.digits.spread_of.Goals as goal

pub returns : goal.returns
unfolding spread
returns c =
    ap (λ n. n / 2 ^ 32)
    (c.loop-b.invariant ∙ ap (fold spread_more 0) (take_all c.loop-b.b-index c.as_bytes-b-items.result.now c.loop-b-test.false ∙ c.as_bytes-b-items.ensures.value))
