-- What a command that writes one text alone puts.
use Rattle.std.proofs.Common.{◌≡◌, ℕ, false, Option, Result, Ok, Err, IfOk, IfErr, List, [], Vec, Global, sym, subst, ◌∙◌}
use Rattle.std.specs.Result.{OnOk, OnErr}
use Rattle.std.proofs.lemmas.Bool.{false≢true}
use Rattle.ff_io.specs.Counts.{Rose, HasCause}
use Rattle.ff_io.specs.Fronts.{IsProperFront}
use Rattle.ff_io.specs.Pieces.{Piece, got_of, put_of, has_end}
use Rattle.ff_io.specs.Port.{Told, Leaves}
use Rattle.ff_io.specs.Whole.{Puts}
use Rattle.ff_io.proofs.Joins.{got_of-then_put, has_end-then_put, Leaves-nil}
use Rattle.ff_status.specs.declared.status.Status.{Status}
use Rattle.ff_status.specs.declared.status.Status.TheVariants.{Done, WriteFault, NoMemory}
use Rattle.ff_writing.specs.Checked.{OnlyPuts, IsPut}

-- what a port tells
abbrev pub told_of : Option (List Piece) → Option (List ℕ) → ℕ → ℕ → Told
told_of log rest reads writes = record { log = log; rest = rest; read_faults = reads; write_faults = writes }

module _ {T E : Type 0} (whole : List ℕ) (log_before log_now : Option (List Piece)) (rest : Option (List ℕ)) (reads before now : ℕ) (text : List ℕ) (text_is : text ≡ whole)
    (result : Result T E) (puts : Puts log_before log_now text result) where
  only_puts : (holds : List ℕ → Type 0) → holds (put_of puts.pieces) → OnlyPuts (told_of log_before rest reads before) (told_of log_now rest reads now) holds
  only_puts holds held =
      let got : got_of puts.pieces ≡ [] = got_of-then_put [] puts.pieces puts.all_put in
      let end : has_end puts.pieces ≡ false = has_end-then_put [] puts.pieces puts.all_put in
      record {
        pieces = puts.pieces;
        passed = record {
          added = puts.added;
          left = subst (λ bytes. Leaves rest rest bytes) (sym got) (Leaves-nil rest);
          at_end = λ e. absurd (false≢true (sym end ∙ e));
        };
        all_put = puts.all_put;
        held = held;
      }

  pub put_whole : (answer : T) → result ≡ Ok answer → IsPut whole (told_of log_before rest reads before) (told_of log_now rest reads now) Done
  put_whole answer ok = only_puts (λ put. put ≡ whole) (subst (λ r. OnOk r (put_of puts.pieces ≡ text)) ok puts.whole ∙ text_is)

  pub put_part : (error : E) → result ≡ Err error → HasCause before now result → IsPut whole (told_of log_before rest reads before) (told_of log_now rest reads now) WriteFault
  put_part error failed cause = (
    only_puts (λ put. IsProperFront put whole) (subst (IsProperFront (put_of puts.pieces)) text_is (subst (λ r. OnErr r (IsProperFront (put_of puts.pieces) text)) failed puts.part)),
    subst (λ r. OnErr r (Rose before now)) failed cause.failed,
  )

-- where a text is made and written: what was put of it, whether it was made or not
pub put_made : {E : Type 0} (whole : List ℕ) (made : Result (Vec ℕ Global) E) (before now : Told) (status : Status)
    → IfOk made (λ text. text.items ≡ whole) → IfOk made (λ text. IsPut text.items before now status) → IfErr made (λ refused. status ≡ NoMemory) → IfErr made (λ refused. now ≡ before) → IsPut whole before now status
put_made whole (Ok text) before now status is put none same = subst (λ bytes. IsPut bytes before now status) is put
put_made whole (Err refused) before now status is put none same = subst (IsPut whole before now) (sym none) same
