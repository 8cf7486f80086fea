use Rattle.std.proofs.Common.{refl, sym, ◌∙◌, rules}
use Rattle.ff_term.specs.Whole.{literal}
use Rattle.ff_frames.specs.declared.frame.Focus.TheVariants as focus
use Rattle.ff_frames.proofs.Steps.{shows-Lit}
use Rattle.ff_frames.proofs.Holding.{shows-Part, holds-Part}
use Rattle.ff_frames.proofs.hand.Hand.hold_source.Goals as goal

pub returns-in_ok-hold_literal-in-Lit : goal.returns-in_ok-hold_literal-in-Lit
returns-in_ok-hold_literal-in-Lit c = (
  focus.Value (literal c.in-Lit.lit),
  shows-Lit c.args.expr c.in-Lit.lit _ (sym c.get.ensures ∙ c.in-Lit.is) refl,
  c.in_ok-hold_literal-in-Lit.ensures,
)

pub returns-in_default : goal.returns-in_default
returns-in_default c =
    let form = c.args.expr in
    (focus.Part form, shows-Part c.args.expr form refl (let h = c.in_default.not-Lit in search rules), holds-Part c.args.self.now.values.items form _ refl refl)
