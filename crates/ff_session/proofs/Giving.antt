-- What a line gives.
use Rattle.std.proofs.Common.{◌≡◌, ℕ, Bool, Option, Some, None, Result, Ok, Err, List, refl, ap, subst}
use Rattle.std.proofs.lemmas.Option.{none-some, same_Some}
use Rattle.ff_lattice.specs.Order.{Order}
use Rattle.ff_value.specs.declared.input.Input.{Input}
use Rattle.ff_trace.specs.Lines.{ReadsLine, IsInputOf}
use Rattle.ff_trace.specs.declared.fault.LineFault.{LineFault}
use Rattle.ff_status.specs.declared.status.TraceFault.{TraceFault}
use Rattle.ff_status.specs.declared.status.TraceFault.TheVariants as fault
use Rattle.ff_policy.specs.Assignment.{Assignment}
use Rattle.ff_stream.specs.declared.end.BadLine.{BadLine}
use Rattle.ff_stream.proofs.Laws.{trace_once}
use Rattle.ff_stream.proofs.Total.{trace_some}
use Rattle.ff_trace.proofs.Wells.{reads_some, input_well}
use Rattle.ff_session.specs.Giving.{Gives}
use Rattle.ff_session.specs.Once.{gives_once}
use Rattle.ff_session.specs.Claims.{IsTraceFor}

-- a line that is read so gives so
pub gives_none : (order : Order) (line : List ℕ) → ReadsLine order line (Ok None) → Gives order line (Ok None)
gives_none order line reads = Gives.no_input reads

pub gives_input : (order : Order) (line : List ℕ) (i : Input) → ReadsLine order line (Ok (Some i)) → IsInputOf order i → Gives order line (Ok (Some i))
gives_input order line i reads well = Gives.an_input i reads well

pub gives_fault : (order : Order) (line : List ℕ) (which : LineFault) → ReadsLine order line (Err which) → Gives order line (Err (fault.Line which))
gives_fault order line which reads = Gives.a_fault which reads

abbrev input_of : Result (Option Input) TraceFault → Option Input
input_of (Ok given) = given
input_of (Err fault) = None

-- an input that a line gives is one that the reader gives
pub is_given : (order : Order) (line : List ℕ) (item : Input) → Gives order line (Ok (Some item)) → IsInputOf order item
is_given order line item gives = from (Ok (Some item)) refl gives
  where
    from : (answer : Result (Option Input) TraceFault) → answer ≡ Ok (Some item) → Gives order line answer → IsInputOf order item
    from answer is (Gives.no_input reads) = absurd (none-some item (ap input_of is))
    from answer is (Gives.an_input i reads well) = subst (IsInputOf order) (same_Some i item (ap input_of is)) well
    from answer is (Gives.a_fault which reads) = absurd (none-some item (ap input_of is))

-- the bytes of a trace give one list of inputs, and have one first bad line
pub trace_read_once : (p : Assignment) (ended : Bool) (bytes : List ℕ) (is js : List Input) (bad other : Option (BadLine TraceFault)) → IsTraceFor p ended bytes is bad → IsTraceFor p ended bytes js other → (is ≡ js) × (bad ≡ other)
trace_read_once p ended bytes is js bad other first second = trace_once (gives_once p.order) ended bytes is js bad other first second

-- a line gives something
gives_some : (order : Order) (line : List ℕ) → (answer : Result (Option Input) TraceFault) × Gives order line answer
gives_some order line = let read = reads_some order line in from read.0 read.1
  where
    from : (answer : Result (Option Input) LineFault) → ReadsLine order line answer → (answer : Result (Option Input) TraceFault) × Gives order line answer
    from (Ok None) reads = (Ok None, Gives.no_input reads)
    from (Ok (Some i)) reads = (Ok (Some i), Gives.an_input i reads (input_well order line i reads))
    from (Err which) reads = (Err (fault.Line which), Gives.a_fault which reads)

-- and so do the bytes of a trace
pub trace_read : (p : Assignment) (ended : Bool) (bytes : List ℕ) → (is : List Input) × (bad : Option (BadLine TraceFault)) × IsTraceFor p ended bytes is bad
trace_read p ended bytes = trace_some (gives_some p.order) ended bytes
