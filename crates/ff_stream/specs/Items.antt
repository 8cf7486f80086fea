-- What reading a line of a trace and taking what it gives do to a port.
use Rattle.std.specs.Prelude.{◌≡◌, ℕ, ◌+◌, ◌≤◌, true, false, ◌||◌, Option, Some, None, Result, Ok, Err, List, [], ◌++◌, ⊤}
use Rattle.ff_io.specs.Pieces.{Piece, got_of, put_of, has_end, AllPut}
use Rattle.ff_io.specs.Port.{Adds, Leaves, AtEnd}
use Rattle.ff_io.specs.Following.{LinesState, ReadsWhileNone, IsGiven}
use Rattle.ff_stream.specs.Traces.{Reads, onto}
use Rattle.ff_stream.specs.declared.end.End.{End}
use Rattle.ff_stream.specs.declared.end.End.TheVariants.{Done, Bad, ReadFault, WriteFault, NoMemory}
use Rattle.ff_io.specs.Fronts.{IsProperFront}
use Rattle.ff_io.specs.declared.lines.LineFail.{LineFail}
use Rattle.ff_io.specs.declared.lines.LineFail.TheVariants as fail
use Rattle.ff_io.specs.declared.lines.LineFail.TheVariants.{TooLong, TooMuch, Read}
use Rattle.ff_stream.specs.declared.end.Fault.TheVariants as fault

-- the lines once these pieces were read
abbrev pub read_lines : LinesState → List Piece → LinesState
read_lines lines pieces = record { held = lines.held ++ got_of pieces; given = lines.given; ended = lines.ended || has_end pieces; failed = false }

-- What the next of these lines, which has this number, gives; or how going through the trace ends
-- with what is held: nothing, an unfinished line or a bad one.
abbrev pub IsItem : {X F : Type 0} → (List ℕ → Result (Option X) F → Type 0) → ℕ → LinesState → LinesState
    → Result (Option X) (End F) → Type 0
IsItem Gives number lines now (Ok item) = (line : List ℕ) × IsGiven lines.given lines.held lines.ended line now × Gives line (Ok item)
IsItem Gives number lines now (Err Done) = (lines.ended ≡ true) × Reads Gives lines.ended number lines.given lines.held [] None
IsItem Gives number lines now (Err (Bad line)) = Reads Gives lines.ended number lines.given lines.held [] (Some line)
IsItem Gives number lines now (Err ReadFault) = (lines.ended ≡ false) × Reads Gives lines.ended number lines.given lines.held [] None
IsItem Gives number lines now (Err WriteFault) = ⊥
IsItem Gives number lines now (Err NoMemory) = ⊤

-- What reading the next line does to a port, and what it answers.
pub record ReadsItem {X F : Type 0} (Gives : List ℕ → Result (Option X) F → Type 0)
    (log_before log_now : Option (List Piece)) (rest_before rest_now : Option (List ℕ)) (number : ℕ) (lines now : LinesState)
    (result : Result (Option X) (End F)) : Type 0 where
  pub pieces : List Piece
  pub added : Adds log_before log_now pieces
  pub left : Leaves rest_before rest_now (got_of pieces)
  pub at_end : AtEnd pieces rest_now
  pub reads : ReadsWhileNone lines.given lines.held lines.ended pieces
  pub answer : IsItem Gives number (read_lines lines pieces) now result

-- the text of what a line gives, and its turns, after these items
abbrev pub item_text : {X : Type 0} → (List X → X → List ℕ) → List X → Option X → List ℕ
item_text entry items None = []
item_text entry items (Some item) = entry items item

-- the turns of what a line gives, after these items
abbrev pub item_turns : {X : Type 0} → (List X → X → ℕ) → List X → Option X → ℕ
item_turns turns items None = 0
item_turns turns items (Some item) = turns items item

-- What a line gives was taken after these items, and all of its text was put; or a part of it.
abbrev pub IsTaken : {X F : Type 0} → (List X → X → List ℕ) → (List X → X → ℕ) → (List X → Type 0) → List Piece → Option X
    → ℕ → ℕ → List X → Result Unit (End F) → Type 0
IsTaken entry turns IsAt pieces item before now items (Ok done) =
    (put_of pieces ≡ item_text entry items item) × IsAt (items ++ onto item []) × (now ≡ before + item_turns turns items item)
IsTaken entry turns IsAt pieces item before now items (Err WriteFault) =
    IsProperFront (put_of pieces) (item_text entry items item) × (now ≡ before + item_turns turns items item)
IsTaken entry turns IsAt pieces item before now items (Err NoMemory) = (pieces ≡ []) × (now ≤ before + item_turns turns items item)
IsTaken entry turns IsAt pieces item before now items (Err other) = ⊥

-- What taking what a line gives does to a port, after whatever items were taken before.
pub record TakesItem {X F : Type 0} (entry : List X → X → List ℕ) (turns : List X → X → ℕ) (WasAt IsAt : List X → Type 0)
    (log_before log_now : Option (List Piece)) (rest_before rest_now : Option (List ℕ)) (item : Option X) (turns_before turns_now : ℕ) (result : Result Unit (End F)) : Type 0 where
  pub pieces : List Piece
  pub added : Adds log_before log_now pieces
  pub same_rest : rest_now ≡ rest_before
  pub all_put : AllPut pieces
  pub taken : (items : List X) → WasAt items → IsTaken entry turns IsAt pieces item turns_before turns_now items result

-- how going through a trace ends where its line of this number can't be given
abbrev pub end_by : {F : Type 0} → ℕ → LineFail → End F
end_by number TooLong = Bad (record { number = number; fault = fault.TooLong })
end_by number TooMuch = Bad (record { number = number; fault = fault.TooMuch })
end_by number Read = ReadFault
end_by number fail.NoMemory = NoMemory
