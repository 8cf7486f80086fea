-- The audit: the lines that the plain program and the multi-executed one put at each level, and
-- where they first differ.
use Rattle.std.specs.Prelude.{◌≡◌, ◌≢◌, ℕ, ◌+◌, ◌<◌, Bool, cond, Option, List, [], length, All}
use Rattle.ff_confinement.specs.Copies.{seen}
use Rattle.ff_confinement.specs.Runs.{work_plain}
use Rattle.ff_value.specs.declared.input.Input.{Input}
use Rattle.ff_io.specs.Pieces.{Piece}
use Rattle.ff_lattice.specs.Order.{size}
use Rattle.ff_machine.specs.State.{State}
use Rattle.ff_policy.specs.Assignment.{Assignment}
use Rattle.ff_pool.specs.Pooled.{Pooled}
use Rattle.ff_session.specs.Levels.{levels, machine}
use Rattle.ff_trace.specs.Lines.{IsInputOf}
use Rattle.ff_status.specs.declared.status.TraceFault.{TraceFault}
use Rattle.ff_status.specs.Words.{IsGood}
use Rattle.ff_stream.specs.declared.end.End.{End}
use Rattle.ff_status.specs.declared.status.Status.{Status}
use Rattle.ff_status.specs.declared.status.Status.TheVariants.{Done, Leaks}
use Rattle.ff_session.specs.Closing.{IsClosed}
use Rattle.ff_session.specs.Plain.{plain_text, plain_turns, IsPlainAt}
use Rattle.ff_confinement.specs.Standings.{fresh}
use Rattle.ff_session.specs.Multi.{seen_by, multi_text, multi_turns, copies_turns, AreCopiesAt}
use Rattle.ff_session.specs.Works.{Duty}
use Rattle.ff_audit.specs.Owned.{own}
use Rattle.ff_audit.specs.Comparing.{compared, CompareAll, Kept}
use Rattle.ff_audit.specs.Verdicts.{any_differ, report_of}
use Rattle.ff_audit.specs.declared.verdict.Verdict.{Verdict}
use Rattle.ff_audit.specs.declared.comparisons.Comparisons.{Comparisons}

-- a level's own lines of the plain run over inputs, and of the multi-executed run
abbrev pub plain_lines : Assignment → List Input → ℕ → List (List ℕ)
plain_lines p is l = own p.order (plain_text p is) l

abbrev pub multi_lines : Assignment → List Input → ℕ → List (List ℕ)
multi_lines p is l = own p.order (multi_text p is) l

-- what is found at a level
abbrev pub verdict : Assignment → List Input → ℕ → Verdict
verdict p is l = compared 0 (plain_lines p is l) (multi_lines p is l)

-- whether the lines of some level differ
abbrev pub leaks : Assignment → List Input → Bool
leaks p is = any_differ (size p.order) (plain_lines p is) (multi_lines p is)

-- the report: what is found at each level in order
abbrev pub report : Assignment → List Input → List ℕ
report p is = report_of p.order (size p.order) (plain_lines p is) (multi_lines p is)

-- how an audit ends
abbrev pub ending : Assignment → List Input → Status
ending p is = cond (leaks p is) Leaks Done

-- the turns of both runs; those of one input after the inputs before it
abbrev pub audit_turns : Assignment → List Input → ℕ
audit_turns p is = work_plain (machine p) is + multi_turns p is

abbrev pub feed_turns : Assignment → List Input → Input → ℕ
feed_turns p is i = plain_turns p is i + copies_turns p (seen_by p) (fresh (machine p)) is i

-- nothing is put before reading has ended
abbrev pub no_entry : List Input → Input → List ℕ
no_entry is i = []

-- what an audit owes: the report, also after a bad line or a read that failed
abbrev pub audit_duty : Assignment → Duty Input
audit_duty p = record { entry = no_entry; text = λ whole is. report p is; turns = audit_turns p; good = ending p }

-- what the comparisons have: the state of the browser, the pool, and for each level what is kept of
-- its lines
pub record Account : Type 0 where
  pub browser : State
  pub pool : Pooled
  pub levels : List Kept

abbrev pub account : {B : Type 0} → (B → State) → Comparisons B → Account
account state comparisons = record { browser = state comparisons.browser; pool = comparisons.pool; levels = comparisons.levels.items }

-- Both runs have taken these inputs, and the lines of each level are compared.
pub record IsAuditAt (p : Assignment) (comparisons : Account) (is : List Input) : Type 0 where
  pub plain : IsPlainAt p comparisons.browser is
  pub copies : AreCopiesAt p (seen_by p) (fresh (machine p)) comparisons.pool is
  pub count : length comparisons.levels ≡ size p.order
  pub levels : CompareAll comparisons.levels (plain_lines p is) (multi_lines p is)

-- What an audit finds at a level is a leak of the plain browser: two lists of inputs that look the
-- same to the level, the ones taken and what the level sees of them, on which the plain browser's
-- lines at it differ.
pub record IsLeak (p : Assignment) (is : List Input) (l : ℕ) : Type 0 where
  pub within : l < size p.order
  pub inputs : All (IsInputOf p.order) (seen (levels p) l is)
  pub alike : seen (levels p) l (seen (levels p) l is) ≡ seen (levels p) l is
  pub other : plain_lines p is l ≢ plain_lines p (seen (levels p) l is) l

-- The bytes are the report on these inputs, which compares at each level the plain browser's lines
-- on all of them with its lines on what the level sees. The status tells whether there is a leak.
pub record IsAudit (p : Assignment) (status : Status) (is : List Input) (put : List ℕ) : Type 0 where
  pub report_is : put ≡ report_of p.order (size p.order) (plain_lines p is) (λ l. plain_lines p (seen (levels p) l is) l)
  pub clean : status ≡ Done → (l : ℕ) → l < size p.order → plain_lines p is l ≡ plain_lines p (seen (levels p) l is) l
  pub leak : status ≡ Leaks → (l : ℕ) × IsLeak p is l

-- The report of the comparisons was put, or what became of it, and the status.
pub record IsReported (p : Assignment) (comparisons : Account) (end : End TraceFault) (log_before log_now : Option (List Piece)) (writes_before writes_now : ℕ) (status : Status) : Type 0 where
  pub text : List ℕ
  pub good : Status
  pub fine : IsGood good
  pub of_books : (is : List Input) → IsAuditAt p comparisons is → (text ≡ report p is) × (good ≡ ending p is)
  pub closed : IsClosed end good text log_before log_now writes_before writes_now status
