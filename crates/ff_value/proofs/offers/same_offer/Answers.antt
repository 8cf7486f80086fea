use Rattle.std.proofs.Common.{◌∙◌, refl, sym, ap}
use Rattle.std.specs.Option.{option_eq}
use Rattle.ff_shared.specs.Content.{same_content-Decides}
use Rattle.ff_value.specs.Offers.{offered}
use Rattle.ff_value.specs.Same.{same_input}
use Rattle.ff_value.specs.contracts.input.Input as input
use Rattle.ff_value.specs.declared.offers.Offer.TheVariants.{Whole}
use Rattle.ff_value.proofs.offers.same_offer.Goals as goal

pub returns-in-Whole-b : goal.returns-in-Whole-b
unfolding same_input
returns-in-Whole-b c =
    let i = c.args.input.now in
    sym (ap (λ a. option_eq same_input (offered i a) (offered i c.args.b.now)) c.in-Whole.is
    ∙ ap (λ b. option_eq same_input (offered i Whole) (offered i b)) c.in-Whole-b.is
    ∙ (same_content-Decides input.the_row.coded i i).1 refl)
