-- What the text of a travel tells.
use Rattle.std.proofs.Common.{◌≡◌, ℕ, Option, None, List, [], ◌∷◌, ◌++◌, All, ap, subst, ◌∙◌}
use Rattle.std.proofs.lemmas.List.Elements.{All-cons, All-head, All-nil, All-tail}
use Rattle.ff_io.specs.Pieces.{got_of, has_end, put_of}
use Rattle.ff_io.specs.Port.{Told}
use Rattle.ff_name.specs.declared.levels.Level.{Level}
use Rattle.ff_policy.specs.Assignment.{Assignment}
use Rattle.ff_status.specs.declared.status.Status.{Status}
use Rattle.ff_status.specs.declared.status.Status.TheVariants.{Done, Leaks, Usage, Policy, Trace, ReadFault, WriteFault, ShelfFault, NoMemory, Saved, Release}
use Rattle.ff_status.specs.declared.status.TraceFault.{TraceFault}
use Rattle.ff_stream.specs.Owed.{text_of}
use Rattle.ff_stream.specs.Traces.{IsTrace}
use Rattle.ff_stream.specs.declared.end.BadLine.{BadLine}
use Rattle.ff_stream.proofs.Laws.{reads_each, trace_once}
use Rattle.ff_session.specs.Claims.{IsAnswered}
use Rattle.ff_session.specs.Works.{Exchanged, IsOwed, IsWritten}
use Rattle.ff_travel.specs.Commands.{IsCommandOf}
use Rattle.ff_travel.specs.Giving as giving
use Rattle.ff_travel.specs.Once.{gives_once}
use Rattle.ff_travel.specs.declared.command.Command.{Command}
use Rattle.ff_travel.specs.declared.command.Command.TheVariants.{Show}
use Rattle.ff_travel.proofs.Giving.{is_given}
use Rattle.ff_travel.specs.Owed.{travel_duty}
use Rattle.ff_travel.specs.Shown.{travel_entry}
use Rattle.ff_travel.specs.Told.{Tells}
use Rattle.ff_travel.proofs.Playing.{shown_all, shown_begins}

-- what holds of two lists joined holds of each
all_left : {X : Type 0} (P : X → Type 0) (xs ys : List X) → All P (xs ++ ys) → All P xs
all_left P [] ys all = All-nil P
all_left P (x ∷ xs) ys all = All-cons P x xs (All-head P x (xs ++ ys) all) (all_left P xs ys (All-tail P x (xs ++ ys) all))

all_right : {X : Type 0} (P : X → Type 0) (xs ys : List X) → All P (xs ++ ys) → All P ys
all_right P [] ys all = all
all_right P (x ∷ xs) ys all = all_right P xs ys (All-tail P x (xs ++ ys) all)

-- the commands of a list in front of another, and a level that is shown, are of the lattice
module _ (p : Assignment) (all before after : List Command) (level : Level) (fit : All (IsCommandOf p.order) all) (is : all ≡ before ++ Show level ∷ after) where
  parted : All (IsCommandOf p.order) (before ++ Show level ∷ after)
  parted = subst (All (IsCommandOf p.order)) is fit

  before_fit : All (IsCommandOf p.order) before
  before_fit = all_left (IsCommandOf p.order) before (Show level ∷ after) parted

  level_fit : IsCommandOf p.order (Show level)
  level_fit = All-head (IsCommandOf p.order) (Show level) after (all_right (IsCommandOf p.order) before (Show level ∷ after) parted)

module _ {before now : Told} {turns_before turns_now : ℕ} (p : Assignment) (s : Status) (run : Exchanged (giving.Gives p.order) (travel_duty p) before now turns_before turns_now s) where
  text_so : {holds : List Command → Type 0} (other bad : Option (BadLine TraceFault)) (paid : IsOwed (giving.Gives p.order) (travel_duty p) run.pieces other turns_before turns_now holds) (all : List Command)
      → IsTrace (giving.Gives p.order) (has_end run.pieces) (got_of run.pieces) all bad → put_of run.pieces ≡ text_of (travel_entry p) all
  text_so other bad paid all reads =
      paid.text_is ∙ ap (text_of (travel_entry p)) (trace_once (gives_once p.order) (has_end run.pieces) (got_of run.pieces) paid.items all other bad paid.read reads).0

  text : (t : Status) → IsAnswered t → IsWritten (giving.Gives p.order) (travel_duty p) t run.pieces turns_before turns_now → (all : List Command) (bad : Option (BadLine TraceFault))
      → IsTrace (giving.Gives p.order) (has_end run.pieces) (got_of run.pieces) all bad → put_of run.pieces ≡ text_of (travel_entry p) all
  text Done answered written all bad reads = text_so None bad written.1 all reads
  text Leaks answered written all bad reads = text_so None bad written.1 all reads
  text (Trace number fault) answered written all bad reads = text_so _ bad written.owed_is all reads
  text ReadFault answered written all bad reads = text_so None bad written.1 all reads
  text Usage answered written all bad reads = absurd answered
  text (Policy fault) answered written all bad reads = absurd answered
  text WriteFault answered written all bad reads = absurd answered
  text ShelfFault answered written all bad reads = absurd answered
  text NoMemory answered written all bad reads = absurd answered
  text (Saved fault) answered written all bad reads = absurd answered
  text (Release fault) answered written all bad reads = absurd answered

  pub travelled_run : IsAnswered s → Tells p before now
  travelled_run answered = record {
    pieces = run.pieces;
    passed = run.passed;
    held = λ all bad reads.
        let fit : All (IsCommandOf p.order) all = reads_each (IsCommandOf p.order) (is_given p.order) (has_end run.pieces) 1 0 (got_of run.pieces) all bad reads in
        record {
          text_is = text s answered run.written all bad reads;
          begins = λ earlier later level is. shown_begins p earlier level.0 (before_fit p all earlier later level fit is) (level_fit p all earlier later level fit is);
          whole = λ earlier later level is rests. shown_all p earlier level.0 (before_fit p all earlier later level fit is) (level_fit p all earlier later level fit is) rests;
        };
  }
