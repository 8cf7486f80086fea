-- What contracts see of a port and of a sink in memory, and what a call makes of it.
use Rattle.std.specs.Prelude.{ℕ, List, [], ◌∷◌, ◌++◌, take}
use Rattle.ff_io.specs.Counts.{next_count}
use Rattle.ff_io.specs.Pieces.{Piece}
use Rattle.ff_io.specs.Pieces.Piece.{Got, Put}
use Rattle.ff_io.specs.Pending.{front_piece, without_front}

-- The pieces still to come, none of them empty, and the log; which reads and writes fail, by their
-- numbers from 1; how many bytes a write takes at most; how many reads and writes came and failed.
pub record PortState : Type 0 where
  pub pieces : List (List ℕ)
  pub log : List Piece
  pub bad_reads : List ℕ
  pub bad_writes : List ℕ
  pub grain : ℕ
  pub reads : ℕ
  pub writes : ℕ
  pub read_faults : ℕ
  pub write_faults : ℕ

-- before the first call
abbrev pub fresh_port : List (List ℕ) → List ℕ → List ℕ → ℕ → PortState
fresh_port pieces bad_reads bad_writes grain = record {
  pieces = pieces;
  log = [];
  bad_reads = bad_reads;
  bad_writes = bad_writes;
  grain = grain;
  reads = 0;
  writes = 0;
  read_faults = 0;
  write_faults = 0;
}

-- after a read that failed
abbrev pub after_bad_read : PortState → PortState
after_bad_read port = record port { reads = next_count port.reads; read_faults = next_count port.read_faults }

-- after a read that got the first n bytes of the first piece
abbrev pub after_read : PortState → ℕ → PortState
after_read port n = record port {
  pieces = without_front n port.pieces;
  log = port.log ++ Got (take n (front_piece port.pieces)) ∷ [];
  reads = next_count port.reads;
}

-- after a write that failed
abbrev pub after_bad_write : PortState → PortState
after_bad_write port = record port { writes = next_count port.writes; write_faults = next_count port.write_faults }

-- after a write that put these bytes
abbrev pub after_write : PortState → List ℕ → PortState
after_write port bytes = record port {
  log = port.log ++ Put bytes ∷ [];
  writes = next_count port.writes;
}

-- The bytes put; which writes fail, by their numbers from 1; how many writes came and failed.
pub record SinkState : Type 0 where
  pub put : List ℕ
  pub bad_writes : List ℕ
  pub writes : ℕ
  pub faults : ℕ

-- before the first call
abbrev pub fresh_sink : List ℕ → SinkState
fresh_sink bad_writes = record { put = []; bad_writes = bad_writes; writes = 0; faults = 0 }

-- after a write that failed
abbrev pub after_bad_put : SinkState → SinkState
after_bad_put sink = record sink { writes = next_count sink.writes; faults = next_count sink.faults }

-- after a write that put these bytes
abbrev pub after_put : SinkState → List ℕ → SinkState
after_put sink bytes = record sink { put = sink.put ++ bytes; writes = next_count sink.writes }
