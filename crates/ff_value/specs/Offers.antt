-- What the levels are offered of an input.
use Rattle.std.specs.Prelude.{Option, Some, None, List, map}
use Rattle.ff_value.specs.declared.input.Input.{Input}
use Rattle.ff_value.specs.declared.offers.Offer.{Offer}
use Rattle.ff_value.specs.declared.offers.Offer.TheVariants.{Nothing, Whole, Other}

-- what an offer of an input offers
abbrev pub offered : Input → Offer → Option Input
offered input Nothing = None
offered input Whole = Some input
offered input (Other other) = Some other

-- what each level is offered of an input, in the order of the levels
abbrev pub all_offered : Input → List Offer → List (Option Input)
all_offered input offers = map (offered input) offers
