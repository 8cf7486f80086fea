-- What a command over a trace does to its port, and what it owes.
use Rattle.std.specs.Prelude.{◌≡◌, ◌≢◌, ℕ, ◌+◌, ◌≤◌, ◌⊎◌, Bool, true, false, Option, Some, None, Result, List, ⊤}
use Rattle.ff_io.specs.Counts.{Rose}
use Rattle.ff_io.specs.Pieces.{Piece, got_of, put_of, has_end}
use Rattle.ff_io.specs.Port.{Told, Passes}
use Rattle.ff_io.specs.Fronts.{IsFront, IsProperFront}
use Rattle.ff_confinement.specs.Runs.{work_plain}
use Rattle.ff_value.specs.declared.input.Input.{Input}
use Rattle.ff_policy.specs.Assignment.{Assignment}
use Rattle.ff_status.specs.declared.status.Status.{Status}
use Rattle.ff_status.specs.declared.status.Status.TheVariants.{Done, Leaks, Trace, ReadFault, WriteFault, NoMemory}
use Rattle.ff_status.specs.declared.status.TraceFault.{TraceFault}
use Rattle.ff_status.specs.Words.{IsGood}
use Rattle.ff_status.specs.declared.status.TraceFault.TheVariants as trace_fault
use Rattle.ff_stream.specs.Traces.{IsTrace}
use Rattle.ff_stream.specs.Owed.{Prompt}
use Rattle.ff_stream.specs.declared.end.BadLine.{BadLine}
use Rattle.ff_stream.specs.declared.end.Fault.{Fault}
use Rattle.ff_stream.specs.declared.end.Fault.TheVariants.{TooLong, TooMuch, Line}
use Rattle.ff_stream.specs.declared.end.End as declared
use Rattle.ff_stream.specs.declared.end.End.TheVariants as end
use Rattle.ff_session.specs.Levels.{machine}
use Rattle.ff_session.specs.Formatting.{format_entry, format_text}
use Rattle.ff_session.specs.Plain.{plain_entry, plain_text}
use Rattle.ff_confinement.specs.Standings.{fresh}
use Rattle.ff_session.specs.Multi.{seen_by, copies_entry, multi_text, multi_turns}

-- What a command owes for the items of a trace: the text for an item after the items before it,
-- which is put before the next read; the whole text for the items, where `whole` says that the
-- trace was read to its end and has no bad line; their turns; and how it then ends.
pub record Duty (X : Type 0) : Type 0 where
  pub entry : List X → X → List ℕ
  pub text : Bool → List X → List ℕ
  pub turns : List X → ℕ
  pub good : List X → Status

-- what a multi-executed run owes: each text in time, and no more at the end
abbrev pub multi_duty : Assignment → Duty Input
multi_duty p = record { entry = copies_entry p (seen_by p) (fresh (machine p)); text = λ whole is. multi_text p is; turns = multi_turns p; good = λ is. Done }

-- what one browser owes
abbrev pub plain_duty : Assignment → Duty Input
plain_duty p = record { entry = plain_entry p; text = λ whole is. plain_text p is; turns = work_plain (machine p); good = λ is. Done }

-- what formatting owes, which makes no turns
abbrev pub format_duty : Assignment → Duty Input
format_duty p = record { entry = format_entry p.order; text = λ whole is. format_text p.order is; turns = λ is. 0; good = λ is. Done }

-- the fault of a line, as the status has it
abbrev pub fault_as : Fault TraceFault → TraceFault
fault_as TooLong = trace_fault.TooLong
fault_as TooMuch = trace_fault.TooMuch
fault_as (Line fault) = fault

-- the status of an end, and of the end of a trace of these items that has no bad line
abbrev pub status_as : declared.End TraceFault → Status → Status
status_as end.Done good = good
status_as (end.Bad line) good = Trace line.number (fault_as line.fault)
status_as end.ReadFault good = ReadFault
status_as end.WriteFault good = WriteFault
status_as end.NoMemory good = NoMemory

-- whether the end was seen and no line is bad
abbrev pub is_whole : {F : Type 0} → Bool → Option (BadLine F) → Bool
is_whole ended None = ended
is_whole ended (Some line) = false

-- an end where no call of the port failed
pub record IsWithoutFault (status : Status) : Type 0 where
  pub read : status ≢ ReadFault
  pub write : status ≢ WriteFault

-- By what a line gives, and what is owed for the items that lines give.
module _ {X : Type 0} (Given : List ℕ → Result (Option X) TraceFault → Type 0) (owed : Duty X) where
  -- the bytes got give these items up to the first bad line
  abbrev pub AreGot : List Piece → List X → Option (BadLine TraceFault) → Type 0
  AreGot pieces items bad = IsTrace Given (has_end pieces) (got_of pieces) items bad

  -- The text for the items of the bytes got, up to the first bad line, was put, all of it, and
  -- exactly their turns were made; of the items this holds.
  pub record IsOwed (pieces : List Piece) (bad : Option (BadLine TraceFault)) (turns_before turns_now : ℕ) (holds : List X → Type 0) : Type 0 where
    pub items : List X
    pub read : AreGot pieces items bad
    pub text_is : put_of pieces ≡ owed.text (is_whole (has_end pieces) bad) items
    pub counted : turns_now ≡ turns_before + owed.turns items
    pub held : holds items

  -- A part of it was put, and at most their turns were made: whatever the bytes got give.
  abbrev pub IsOwedMore : (List ℕ → List ℕ → Type 0) → List Piece → ℕ → ℕ → Type 0
  IsOwedMore IsPart pieces turns_before turns_now = (items : List X) (bad : Option (BadLine TraceFault)) → AreGot pieces items bad
      → IsPart (put_of pieces) (owed.text (is_whole (has_end pieces) bad) items) × (turns_now ≤ turns_before + owed.turns items)

  -- The whole text of a trace that was read to its end and has no bad line was put, and the status
  -- is how it then ends.
  abbrev pub IsFinished : Status → List Piece → ℕ → ℕ → Type 0
  IsFinished status pieces before now = (has_end pieces ≡ true) × IsOwed pieces None before now (λ items. owed.good items ≡ status)

  -- The line of this number is the first bad one, with this fault.
  pub record IsBadAt (number : ℕ) (fault : TraceFault) (pieces : List Piece) (turns_before turns_now : ℕ) : Type 0 where
    pub which : Fault TraceFault
    pub fault_is : fault ≡ fault_as which
    pub owed_is : IsOwed pieces (Some (record { number = number; fault = which })) turns_before turns_now (λ items. ⊤)

  -- The text law: what was put, and the turns, by the status.
  abbrev pub IsWritten : Status → List Piece → ℕ → ℕ → Type 0
  IsWritten Done pieces before now = IsFinished Done pieces before now
  IsWritten Leaks pieces before now = IsFinished Leaks pieces before now
  -- the text up to the first bad line
  IsWritten (Trace number fault) pieces before now = IsBadAt number fault pieces before now
  -- the text of all whole lines that were got before the read that failed
  IsWritten ReadFault pieces before now = (has_end pieces ≡ false) × IsOwed pieces None before now (λ items. ⊤)
  -- some of the text, but not all
  IsWritten WriteFault pieces before now = IsOwedMore IsProperFront pieces before now
  -- some of the text
  IsWritten NoMemory pieces before now = IsOwedMore IsFront pieces before now
  IsWritten other pieces before now = ⊥

  -- What a command that goes over a trace does to its port.
  pub record Exchanged (before now : Told) (turns_before turns_now : ℕ) (status : Status) : Type 0 where
    pub pieces : List Piece
    pub passed : Passes before now pieces
    -- before each read, the end wasn't seen, the bytes got have no bad line, and the text owed for
    -- them was put
    pub prompt : Prompt Given owed.entry pieces
    pub written : IsWritten status pieces turns_before turns_now
    -- the count of turns never falls, and stands still where none are owed
    pub later : turns_before ≤ turns_now
    pub unturned : ((items : List X) → owed.turns items ≡ 0) → turns_now ≡ turns_before
    -- a read or a write fault comes only where one was counted
    pub read_fault : status ≡ ReadFault → Rose before.read_faults now.read_faults
    pub write_fault : status ≡ WriteFault → Rose before.write_faults now.write_faults
    -- a bad line of the bytes got is what it ends with
    pub bad_line : IsWithoutFault status → (items : List X) (line : BadLine TraceFault) → AreGot pieces items (Some line)
        → (status ≡ Trace line.number (fault_as line.fault)) ⊎ (status ≡ NoMemory)
    -- it ends well where the rest that the port told has no bad line, and then all of that was got
    pub good_rest : IsWithoutFault status → (rest : List ℕ) (items : List X) → before.rest ≡ Some rest → IsTrace Given true rest items None
        → (status ≡ owed.good items) ⊎ (status ≡ NoMemory)
    pub all_got : IsGood status → (rest : List ℕ) → before.rest ≡ Some rest → got_of pieces ≡ rest

  -- Exactly the turns were made that the items take which the bytes got give, up to the first bad
  -- line.
  pub record Counts (before now : Told) (turns_before turns_now : ℕ) : Type 0 where
    pub pieces : List Piece
    pub passed : Passes before now pieces
    pub counted : (items : List X) (bad : Option (BadLine TraceFault)) → AreGot pieces items bad → turns_now ≡ turns_before + owed.turns items
