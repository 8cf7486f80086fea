-- A line gives one answer.
use Rattle.std.proofs.Common.{◌≡◌, ℕ, Option, Some, None, Result, Ok, Err, List, refl, ap}
use Rattle.std.proofs.lemmas.Option.{none-some, same_Some}
use Rattle.ff_lattice.specs.Order.{Order}
use Rattle.ff_value.specs.declared.input.Input.{Input}
use Rattle.ff_trace.proofs.Once.{reads_line_once}
use Rattle.ff_status.specs.declared.status.TraceFault.{TraceFault}
use Rattle.ff_status.specs.declared.status.TraceFault.TheVariants as fault
use Rattle.ff_session.specs.Giving.{Gives}

abbrev error_of : {T E : Type 0} → Result T E → Option E
error_of (Ok value) = None
error_of (Err error) = Some error

abbrev value_of : {T E : Type 0} → Result (Option T) E → Option T
value_of (Ok value) = value
value_of (Err error) = None

pub gives_once : (order : Order) (line : List ℕ) (a b : Result (Option Input) TraceFault) → Gives order line a → Gives order line b → a ≡ b
gives_once order line a b (Gives.no_input r) (Gives.no_input s) = refl
gives_once order line a b (Gives.no_input r) (Gives.an_input j s takes) = absurd (none-some j (ap value_of (reads_line_once order line (Ok None) (Ok (Some j)) r s)))
gives_once order line a b (Gives.no_input r) (Gives.a_fault w s) = absurd (none-some w (ap error_of (reads_line_once order line (Ok None) (Err w) r s)))
gives_once order line a b (Gives.an_input i r takes) (Gives.no_input s) = absurd (none-some i (ap value_of (reads_line_once order line (Ok None) (Ok (Some i)) s r)))
gives_once order line a b (Gives.an_input i r takes) (Gives.an_input j s more) = ap (λ o. Ok o) (ap value_of (reads_line_once order line (Ok (Some i)) (Ok (Some j)) r s))
gives_once order line a b (Gives.an_input i r takes) (Gives.a_fault w s) = absurd (none-some w (ap error_of (reads_line_once order line (Ok (Some i)) (Err w) r s)))
gives_once order line a b (Gives.a_fault v r) (Gives.no_input s) = absurd (none-some v (ap error_of (reads_line_once order line (Ok None) (Err v) s r)))
gives_once order line a b (Gives.a_fault v r) (Gives.an_input j s takes) = absurd (none-some v (ap error_of (reads_line_once order line (Ok (Some j)) (Err v) s r)))
gives_once order line a b (Gives.a_fault v r) (Gives.a_fault w s) = ap (λ x. Err (fault.Line x)) (same_Some v w (ap error_of (reads_line_once order line (Err v) (Err w) r s)))
