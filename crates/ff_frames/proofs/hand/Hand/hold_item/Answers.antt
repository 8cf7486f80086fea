use Rattle.std.proofs.Common.{◌≡◌, refl, rules}
use Rattle.ff_frames.proofs.Steps.{shows-Lit}
use Rattle.ff_frames.proofs.Holding.{held-shown, holds-Part, shows-Part, some-same}
use Rattle.ff_frames.proofs.hand.Hand.hold_item.Goals as goal

pub returns-in_ok-hold_literal-in-Lit : goal.returns-in_ok-hold_literal-in-Lit
returns-in_ok-hold_literal-in-Lit c =
    held-shown _ c.in-Some.expr.now _ c.args.self.now _ c.in-Some.ensures.value
    (shows-Lit c.in-Some.expr.now c.in-Lit.lit _ c.in-Lit.is refl)
    c.in_ok-hold_literal-in-Lit.ensures

pub returns-in_ok-at-in_default : goal.returns-in_ok-at-in_default
returns-in_ok-at-in_default c =
    let form = c.in_ok-at-in_default.field-0 in
    let same : form ≡ c.in-Some.expr.now = some-same _ _ _ c.in-Some.ensures.value c.in_ok-at-in_default.ensures in
    held-shown _ c.in-Some.expr.now _ c.args.self.now _ c.in-Some.ensures.value
    (shows-Part c.in-Some.expr.now form same (let h = c.in_default.not-Lit in search rules))
    (holds-Part c.args.self.now.values.items form _ refl refl)
