-- What a level is offered of a well spelled input is well spelled.
use Rattle.std.proofs.Common.{◌≡◌, ℕ, Option, Some, None, sym}
use Rattle.ff_value.specs.Spelled.{IsWellSpelledInput}
use Rattle.ff_value.specs.Offers.{offered}
use Rattle.ff_value.specs.declared.input.Input.{Input}
use Rattle.ff_value.specs.declared.offers.Offer.{Offer}
use Rattle.ff_policy.specs.Assignment.{Assignment}
use Rattle.ff_route.specs.Route.{sees}
use Rattle.ff_confinement.specs.Worlds.{OfferOk}
use Rattle.ff_trace.specs.Lines.{IsInputOf}
use Rattle.ff_route.proofs.Fits.{sees_spelled}

all_seen_ok : (p : Assignment) (l : ℕ) (i : Input) (seen : Option Input) → IsInputOf p.order i → seen ≡ sees p l i → OfferOk IsWellSpelledInput seen
all_seen_ok p l i None good is = tt
all_seen_ok p l i (Some x) good is = sees_spelled p l i x good.spelled (sym is)

pub seen_ok : (p : Assignment) (l : ℕ) (i : Input) (seen : Offer) → IsInputOf p.order i → offered i seen ≡ sees p l i → OfferOk IsWellSpelledInput (offered i seen)
seen_ok p l i seen good is = all_seen_ok p l i (offered i seen) good is
