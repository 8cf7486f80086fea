-- What a resumed run owes, by what its loop and its closing text owe.
use Rattle.std.proofs.Common.{◌≡◌, ◌≢◌, ℕ, ◌≤◌, false, Option, List, [], ◌++◌, refl, sym, ap, subst, ◌∙◌, arith}
use Rattle.ff_io.specs.Counts.{Rose}
use Rattle.ff_io.specs.Pieces.{Piece}
use Rattle.ff_io.proofs.Joins.{Adds-nil}
use Rattle.ff_machine.specs.State.{State}
use Rattle.ff_policy.specs.Assignment.{Assignment}
use Rattle.ff_pool.specs.Pooled.{Pooled}
use Rattle.ff_confinement.specs.Standings.{Standing, run, puts_all}
use Rattle.ff_confinement.specs.Text.{text_out}
use Rattle.ff_confinement.proofs.Standings.{run_start, run_more, work_of_start, work_of_more}
use Rattle.ff_confinement.proofs.Text.{text_out_none, text_out_push}
use Rattle.ff_save.specs.Saved.{saved_recs, saved_text}
use Rattle.ff_session.specs.Closing.{IsEnded, IsClosed, Closes, ends_whole}
use Rattle.ff_session.specs.Giving.{Gives}
use Rattle.ff_session.specs.Levels.{levels, machine}
use Rattle.ff_session.specs.Multi.{AreCopiesAt, seen_by, run_text, run_turns, copies_entry, copies_turns}
use Rattle.ff_session.specs.Once.{gives_once}
use Rattle.ff_session.specs.Works.{Exchanged, status_as}
use Rattle.ff_session.proofs.Closing as closing
use Rattle.ff_session.proofs.Closing.{told_of}
use Rattle.ff_status.specs.declared.status.Status.{Status}
use Rattle.ff_status.specs.declared.status.Status.TheVariants.{Done}
use Rattle.ff_status.specs.declared.status.TraceFault.{TraceFault}
use Rattle.ff_stream.specs.Owed as owed
use Rattle.ff_stream.specs.Owed.{Streams}
use Rattle.ff_stream.specs.declared.end.End.{End}
use Rattle.ff_stream.specs.declared.end.End.TheVariants as ended
use Rattle.ff_stream.proofs.Owing.{text_by_steps, turns_by_steps}
use Rattle.ff_value.specs.Same.{same_input}
use Rattle.ff_value.specs.declared.input.Input.{Input}
use Rattle.ff_resume.specs.Resumed.{closing_text, resume_duty}
use Rattle.ff_resume.proofs.Resting.{saved_there}

-- what became of no closing text
nothing_owed : (writes : ℕ) (end : End TraceFault) → Closes end Done [] [] writes writes (status_as end Done)
nothing_owed writes ended.Done = Closes.closed tt refl
nothing_owed writes (ended.Bad line) = Closes.closed tt refl
nothing_owed writes ended.ReadFault = Closes.closed tt refl
nothing_owed writes ended.WriteFault = Closes.failed (λ is. is) refl
nothing_owed writes ended.NoMemory = Closes.failed (λ is. is) refl

module _ (p : Assignment) (from : Standing State) where
  -- the text and the turns are those of one input after another
  pub same_text : (is : List Input) → owed.text_of (copies_entry p (seen_by p) from) is ≡ run_text p (seen_by p) from is
  same_text is = text_by_steps (copies_entry p (seen_by p) from) (run_text p (seen_by p) from)
      (ap (text_out (levels p)) (run_start (machine p) (levels p) (seen_by p) from) ∙ text_out_none (levels p))
      (λ js i. ap (text_out (levels p)) (run_more (machine p) (levels p) (seen_by p) from js i)
      ∙ text_out_push (levels p) (run (machine p) (levels p) (seen_by p) from js) (puts_all (machine p) (levels p) (seen_by p) from js i)) is

  same_turns : (is : List Input) → owed.turns_of (copies_turns p (seen_by p) from) is ≡ run_turns p (seen_by p) from is
  same_turns is = turns_by_steps (copies_turns p (seen_by p) from) (run_turns p (seen_by p) from)
      (work_of_start (machine p) (levels p) (seen_by p) from same_input)
      (work_of_more (machine p) (levels p) (seen_by p) from same_input) is

  module _ {IsAt : List Input → Type 0} {log_before log_mid : Option (List Piece)} {rest_before rest_now : Option (List ℕ)} {turns_before turns_now : ℕ} (end : End TraceFault)
      (streams : Streams (Gives p.order) (copies_entry p (seen_by p) from) (copies_turns p (seen_by p) from) IsAt log_before log_mid rest_before rest_now turns_before turns_now end) where
    -- the run and its closing text
    closed_run : (text : List ℕ) (log_now : Option (List Piece)) (writes_mid writes_now : ℕ) (s : Status) → IsClosed end Done text log_mid log_now writes_mid writes_now s
        → (IsEnded end → (is : List Input) → IsAt is → text ≡ closing_text p from (ends_whole end) is)
        → (reads_before reads_now writes_before : ℕ) → turns_before ≤ turns_now → (end ≡ ended.ReadFault → Rose reads_before reads_now) → (end ≡ ended.WriteFault → Rose writes_before writes_mid) → writes_before ≤ writes_mid → writes_mid ≤ writes_now
        → Exchanged (Gives p.order) (resume_duty p from) (told_of log_before rest_before reads_before writes_before) (told_of log_now rest_now reads_now writes_now) turns_before turns_now s
    closed_run text log_now writes_mid writes_now s closed text_is reads_before reads_now writes_before later read_fault write_fault up more =
        closing.exchanged (gives_once p.order) (resume_duty p from) end streams same_turns (closing_text p from) (λ whole is. ap (λ t. t ++ closing_text p from whole is) (sym (same_text is)))
        Done tt text (λ ends is at. (text_is ends is at, refl)) closed.last closed.puts log_now closed.added s reads_before reads_now writes_before writes_mid writes_now later read_fault write_fault up more closed.closes

    -- no text is put where the trace wasn't whole
    not_whole : (which : End TraceFault) → which ≢ ended.Done → ends_whole which ≡ false
    not_whole ended.Done other = absurd (other refl)
    not_whole (ended.Bad line) other = refl
    not_whole ended.ReadFault other = refl
    not_whole ended.WriteFault other = refl
    not_whole ended.NoMemory other = refl

    nothing_closed : (writes : ℕ) → IsClosed end Done [] log_mid log_mid writes writes (status_as end Done)
    nothing_closed writes = record { last = []; puts = tt; added = Adds-nil log_mid; closes = nothing_owed writes end }

    pub unsaved : end ≢ ended.Done → (reads_before reads_now writes_before writes_now : ℕ) → turns_before ≤ turns_now → (end ≡ ended.ReadFault → Rose reads_before reads_now) → (end ≡ ended.WriteFault → Rose writes_before writes_now) → writes_before ≤ writes_now
        → Exchanged (Gives p.order) (resume_duty p from) (told_of log_before rest_before reads_before writes_before) (told_of log_mid rest_now reads_now writes_now) turns_before turns_now (status_as end Done)
    unsaved other reads_before reads_now writes_before writes_now later read_fault write_fault up =
        closed_run [] log_mid writes_now writes_now (status_as end Done) (nothing_closed writes_now)
        (λ ends is at. sym (ap (λ whole. closing_text p from whole is) (not_whole end other)))
        reads_before reads_now writes_before later read_fault write_fault up (omega arith)

-- the saved text was put after a good trace
pub saved : (p : Assignment) (from : Standing State) (pool : Pooled) {IsAt : List Input → Type 0} (copies_at : (is : List Input) → IsAt is → AreCopiesAt p (seen_by p) from pool is) {log_before log_mid log_now : Option (List Piece)} {rest_before rest_now : Option (List ℕ)} {turns_before turns_now : ℕ} (end : End TraceFault)
    → Streams (Gives p.order) (copies_entry p (seen_by p) from) (copies_turns p (seen_by p) from) IsAt log_before log_mid rest_before rest_now turns_before turns_now end
    → end ≡ ended.Done → (writes_mid writes_now : ℕ) (s : Status) → IsClosed ended.Done Done (saved_text p (saved_recs pool)) log_mid log_now writes_mid writes_now s
    → (reads_before reads_now writes_before : ℕ) → turns_before ≤ turns_now → (end ≡ ended.ReadFault → Rose reads_before reads_now) → (end ≡ ended.WriteFault → Rose writes_before writes_mid) → writes_before ≤ writes_mid → writes_mid ≤ writes_now
    → Exchanged (Gives p.order) (resume_duty p from) (told_of log_before rest_before reads_before writes_before) (told_of log_now rest_now reads_now writes_now) turns_before turns_now s
saved p from pool copies_at {log_mid = log_mid} {log_now = log_now} end streams is writes_mid writes_now s closed reads_before reads_now writes_before later read_fault write_fault up more =
    closed_run p from end streams (saved_text p (saved_recs pool)) log_now writes_mid writes_now s
    (subst (λ e. IsClosed e Done (saved_text p (saved_recs pool)) log_mid log_now writes_mid writes_now s) (sym is) closed)
    (λ ends js at. saved_there p pool from js (copies_at js at) ∙ sym (ap (λ whole. closing_text p from whole js) (ap ends_whole is)))
    reads_before reads_now writes_before later read_fault write_fault up more

-- after a good trace the copies stand somewhere
pub whole_stands : (p : Assignment) (from : Standing State) {IsAt : List Input → Type 0} {log_before log_mid : Option (List Piece)} {rest_before rest_now : Option (List ℕ)} {turns_before turns_now : ℕ} (end : End TraceFault)
    → Streams (Gives p.order) (copies_entry p (seen_by p) from) (copies_turns p (seen_by p) from) IsAt log_before log_mid rest_before rest_now turns_before turns_now end → end ≡ ended.Done → (is : List Input) × IsAt is
whole_stands p from ended.Done streams is = (streams.held.1.items, streams.held.1.at)
whole_stands p from (ended.Bad line) streams is = cc
whole_stands p from ended.ReadFault streams is = cc
whole_stands p from ended.WriteFault streams is = cc
whole_stands p from ended.NoMemory streams is = cc
