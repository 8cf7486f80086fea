-- What a travel owes, by what its loop owes.
use Rattle.std.proofs.Common.{◌≡◌, ℕ, ◌≤◌, Option, List, refl, arith}
use Rattle.std.specs.Bool.{⊤}
use Rattle.ff_io.specs.Counts.{Rose}
use Rattle.ff_io.specs.Pieces.{Piece}
use Rattle.ff_policy.specs.Assignment.{Assignment}
use Rattle.ff_status.specs.declared.status.Status.TheVariants.{Done, NoMemory}
use Rattle.ff_status.specs.declared.status.TraceFault.{TraceFault}
use Rattle.ff_stream.specs.Owed.{Streams}
use Rattle.ff_stream.specs.declared.end.End.{End}
use Rattle.ff_stream.specs.declared.end.End.TheVariants as ended
use Rattle.ff_stream.proofs.Onwards.{streams_none}
use Rattle.ff_session.specs.Works.{Exchanged, status_as}
use Rattle.ff_session.proofs.Closing.{told_of, unclosed}
use Rattle.ff_travel.specs.Giving.{Gives}
use Rattle.ff_travel.specs.Once.{gives_once}
use Rattle.ff_travel.specs.Owed.{travel_duty}
use Rattle.ff_travel.specs.Shown.{travel_entry, travel_turns}
use Rattle.ff_travel.specs.declared.command.Command.{Command}

-- the travel by its loop
pub exchanged : {IsAt : List Command → Type 0} {log_before log_now : Option (List Piece)} {rest_before rest_now : Option (List ℕ)} {turns_before turns_now : ℕ} (p : Assignment) (how : End TraceFault)
    → Streams (Gives p.order) (travel_entry p) (travel_turns p) IsAt log_before log_now rest_before rest_now turns_before turns_now how
    → (reads_before reads_now writes_before writes_now : ℕ) → turns_before ≤ turns_now → (how ≡ ended.ReadFault → Rose reads_before reads_now) → (how ≡ ended.WriteFault → Rose writes_before writes_now) → writes_before ≤ writes_now
    → Exchanged (Gives p.order) (travel_duty p) (told_of log_before rest_before reads_before writes_before) (told_of log_now rest_now reads_now writes_now) turns_before turns_now (status_as how Done)
exchanged p how streams reads_before reads_now writes_before writes_now later read_fault write_fault later_writes =
    unclosed (gives_once p.order) (travel_duty p) how streams (λ commands. refl) (λ whole commands. refl) (λ commands. refl) reads_before reads_now writes_before writes_now later read_fault write_fault later_writes

-- there was no memory for it
pub unmade : (p : Assignment) (log : Option (List Piece)) (rest : Option (List ℕ)) (turns reads writes : ℕ) → Exchanged (Gives p.order) (travel_duty p) (told_of log rest reads writes) (told_of log rest reads writes) turns turns NoMemory
unmade p log rest turns reads writes =
    exchanged {IsAt = λ commands. ⊤} p ended.NoMemory (streams_none (Gives p.order) (travel_entry p) (travel_turns p) (λ commands. ⊤) log rest turns) reads reads writes writes (omega arith) (λ e. cc) (λ e. cc) (omega arith)
