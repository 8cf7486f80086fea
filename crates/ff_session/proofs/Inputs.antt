-- An input of a trace is one that the levels and the browser take, and so is what a level sees of
-- it.
use Rattle.std.proofs.Common.{◌≡◌, ℕ, Some}
use Rattle.ff_value.specs.declared.input.Input.{Input}
use Rattle.ff_policy.specs.Assignment.{Assignment}
use Rattle.ff_route.specs.Route.{sees}
use Rattle.ff_route.proofs.Fits.{sees_spelled, sees_tagged}
use Rattle.ff_trace.specs.Lines.{IsInputOf}

-- what a level sees of it is well spelled, and its tag names a level
pub seen_input : (p : Assignment) (l : ℕ) (i x : Input) → IsInputOf p.order i → sees p l i ≡ Some x → IsInputOf p.order x
seen_input p l i x is seen = record { tag = sees_tagged p l i x is.tag seen; spelled = sees_spelled p l i x is.spelled seen }
