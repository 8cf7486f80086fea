-- What is claimed of a run, by the bytes that it got and put.
use Rattle.std.specs.Prelude.{ℕ, Bool, Option, List, ⊤}
use Rattle.ff_io.specs.Pieces.{Piece, got_of, put_of, has_end}
use Rattle.ff_io.specs.Port.{Told, Passes}
use Rattle.ff_value.specs.declared.input.Input.{Input}
use Rattle.ff_policy.specs.Assignment.{Assignment}
use Rattle.ff_status.specs.declared.status.Status.{Status}
use Rattle.ff_status.specs.declared.status.Status.TheVariants.{Done, Leaks, Trace, ReadFault}
use Rattle.ff_status.specs.declared.status.TraceFault.{TraceFault}
use Rattle.ff_stream.specs.Traces.{IsTrace}
use Rattle.ff_stream.specs.declared.end.BadLine.{BadLine}
use Rattle.ff_session.specs.Giving.{Gives}

-- these bytes of a trace, of which `ended` says whether they are all, give these inputs up to the
-- first bad line
abbrev pub IsTraceFor : Assignment → Bool → List ℕ → List Input → Option (BadLine TraceFault) → Type 0
IsTraceFor p ended bytes is bad = IsTrace (Gives p.order) ended bytes is bad

-- the bytes got give these inputs up to the first bad line
abbrev pub AreInputsGot : Assignment → List Piece → List Input → Option (BadLine TraceFault) → Type 0
AreInputsGot p pieces is bad = IsTraceFor p (has_end pieces) (got_of pieces) is bad

-- the status says that all that is owed for the bytes got was put
abbrev pub IsAnswered : Status → Type 0
IsAnswered Done = ⊤
IsAnswered Leaks = ⊤
IsAnswered (Trace number fault) = ⊤
IsAnswered ReadFault = ⊤
IsAnswered other = ⊥

-- Of the inputs that the bytes got give, and of the bytes put, this holds.
pub record Claims (p : Assignment) (before now : Told) (claim : List Input → List ℕ → Type 0) : Type 0 where
  pub pieces : List Piece
  pub passed : Passes before now pieces
  pub held : (is : List Input) (bad : Option (BadLine TraceFault)) → AreInputsGot p pieces is bad → claim is (put_of pieces)
