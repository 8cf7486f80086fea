-- A trace in parts.
use Rattle.std.specs.Prelude.{ℕ, ◌+◌, ◌==◌, Option, Some, None, List, filter, length}
use Rattle.ff_status.specs.declared.status.TraceFault.{TraceFault}
use Rattle.ff_stream.specs.declared.end.BadLine.{BadLine}

-- how many lines end in these bytes
abbrev pub newlines : List ℕ → ℕ
newlines bytes = length (filter (λ b. b == 10) bytes)

-- a bad line, where there is one, of a part of a trace before which so many lines stand
abbrev pub later_by : ℕ → Option (BadLine TraceFault) → Option (BadLine TraceFault)
later_by n None = None
later_by n (Some line) = Some (record { number = n + line.number; fault = line.fault })
