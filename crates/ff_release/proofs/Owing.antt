-- What a released run owes, by what its loop owes, and what its text tells.
use Rattle.std.proofs.Common.{◌≡◌, ℕ, ◌≤◌, Option, List, [], All, refl, sym, subst, ◌∙◌, arith}
use Rattle.std.specs.Bool.{⊤}
use Rattle.ff_io.specs.Counts.{Rose}
use Rattle.ff_io.specs.Pieces.{Piece}
use Rattle.ff_io.specs.Port.{Told}
use Rattle.ff_value.specs.declared.input.Input.{Input}
use Rattle.ff_policy.specs.Assignment.{Assignment, IsAssignment}
use Rattle.ff_confinement.specs.Standings.{fresh}
use Rattle.ff_route.specs.Offering.{IsRuleOf}
use Rattle.ff_route.specs.declared.rule.Rule.{Rule}
use Rattle.ff_route.proofs.Counting.{left_start}
use Rattle.ff_pool.specs.Pooled.{Pooled}
use Rattle.ff_status.specs.declared.status.Status.{Status}
use Rattle.ff_status.specs.declared.status.Status.TheVariants.{Done, NoMemory}
use Rattle.ff_status.specs.declared.status.TraceFault.{TraceFault}
use Rattle.ff_stream.specs.Owed.{Streams}
use Rattle.ff_stream.specs.declared.end.End.{End}
use Rattle.ff_stream.specs.declared.end.End.TheVariants as ended
use Rattle.ff_stream.proofs.Onwards.{streams_none}
use Rattle.ff_session.specs.Giving.{Gives}
use Rattle.ff_session.specs.Levels.{machine}
use Rattle.ff_session.specs.Multi.{AreCopiesAt}
use Rattle.ff_session.specs.Once.{gives_once}
use Rattle.ff_session.specs.Claims.{Claims, IsAnswered}
use Rattle.ff_session.specs.Works.{Exchanged, status_as}
use Rattle.ff_session.proofs.Closing.{told_of, unclosed}
use Rattle.ff_session.proofs.Headline.{claimed}
use Rattle.ff_release.specs.Releasing.{IsReleased, IsReleasedAt, entry_turns, offered_by, release_duty, release_entry, release_text}
use Rattle.ff_release.proofs.Released.{is_released}
use Rattle.ff_release.proofs.Texts.{same_text, same_turns}

-- the run by its loop
pub exchanged : {IsAt : List Input → Type 0} {log_before log_now : Option (List Piece)} {rest_before rest_now : Option (List ℕ)} {turns_before turns_now : ℕ} (p : Assignment) (rules : List Rule) (how : End TraceFault)
    → Streams (Gives p.order) (release_entry p rules) (entry_turns p rules) IsAt log_before log_now rest_before rest_now turns_before turns_now how
    → (reads_before reads_now writes_before writes_now : ℕ) → turns_before ≤ turns_now → (how ≡ ended.ReadFault → Rose reads_before reads_now) → (how ≡ ended.WriteFault → Rose writes_before writes_now) → writes_before ≤ writes_now
    → Exchanged (Gives p.order) (release_duty p rules) (told_of log_before rest_before reads_before writes_before) (told_of log_now rest_now reads_now writes_now) turns_before turns_now (status_as how Done)
exchanged p rules how streams reads_before reads_now writes_before writes_now later read_fault write_fault later_writes =
    unclosed (gives_once p.order) (release_duty p rules) how streams (same_turns p rules) (λ whole is. sym (same_text p rules is)) (λ is. refl) reads_before reads_now writes_before writes_now later read_fault write_fault later_writes

-- there was no memory for it
pub unmade : (p : Assignment) (rules : List Rule) (log : Option (List Piece)) (rest : Option (List ℕ)) (turns reads writes : ℕ) → Exchanged (Gives p.order) (release_duty p rules) (told_of log rest reads writes) (told_of log rest reads writes) turns turns NoMemory
unmade p rules log rest turns reads writes =
    exchanged {IsAt = λ is. ⊤} p rules ended.NoMemory (streams_none (Gives p.order) (release_entry p rules) (entry_turns p rules) (λ is. ⊤) log rest turns) reads reads writes writes (omega arith) (λ e. cc) (λ e. cc) (omega arith)

-- what its text tells
pub released_run : {before now : Told} {turns_before turns_now : ℕ} (p : Assignment) (rules : List Rule) (s : Status) → Exchanged (Gives p.order) (release_duty p rules) before now turns_before turns_now s → IsAssignment p → IsAnswered s
    → Claims p before now (λ is put. IsReleased p rules is put)
released_run p rules s run valid answered =
    claimed p (release_duty p rules) (release_text p rules) (λ whole is. refl) s run (λ is put. IsReleased p rules is put) answered
    (λ is put fit text. subst (IsReleased p rules is) (sym text) (is_released p rules is valid fit))

-- where it starts
pub fresh_released : (p : Assignment) (rules : List Rule) (pool : Pooled) (left : List Rule) → All (IsRuleOf p.order) rules → AreCopiesAt p (offered_by p rules) (fresh (machine p)) pool [] → left ≡ rules → IsReleasedAt p rules pool left []
fresh_released p rules pool left fit copies same = record { fit = fit; copies = copies; left_is = same ∙ sym (left_start p rules) }
