-- An audit, input after input: where both programs and the comparisons stand, and what is owed.
use Rattle.std.proofs.Common.{◌≡◌, ℕ, ◌+◌, ◌≤◌, Bool, true, false, cond, Option, Result, Ok, Err, List, [], ◌∷◌, ◌++◌, length, refl, sym, ap, subst, ◌∙◌, append-nil, arith}
use Rattle.std.specs.Bool.{⊤}
use Rattle.std.specs.Result.{OnOk}
use Rattle.ff_io.specs.Counts.{Rose}
use Rattle.ff_io.specs.Pieces.{Piece}
use Rattle.ff_confinement.specs.Runs.{plain, work_plain}
use Rattle.ff_confinement.specs.Copies.{multi}
use Rattle.ff_confinement.proofs.Runs.{work_plain_start, work_plain_more}
use Rattle.ff_confinement.proofs.Sharing.{work_start, work_more}
use Rattle.ff_confinement.proofs.Lines.{text_start, text_more, plain_text_start, plain_text_more}
use Rattle.ff_value.specs.Same.{same_input}
use Rattle.ff_lattice.specs.Order.{Order, size}
use Rattle.ff_value.specs.declared.input.Input.{Input}
use Rattle.ff_policy.specs.Assignment.{Assignment}
use Rattle.ff_session.specs.Levels.{levels, machine}
use Rattle.ff_status.specs.declared.status.Status.{Status}
use Rattle.ff_status.specs.declared.status.Status.TheVariants.{Done, Leaks, NoMemory}
use Rattle.ff_status.specs.declared.status.TraceFault.{TraceFault}
use Rattle.ff_status.specs.Words.{IsGood}
use Rattle.ff_stream.specs.Owed as owed
use Rattle.ff_stream.specs.Owed.{Streams}
use Rattle.ff_stream.specs.declared.end.End.{End}
use Rattle.ff_stream.specs.declared.end.End.TheVariants as ended
use Rattle.ff_stream.proofs.Owing.{text_by_steps, turns_by_steps}
use Rattle.ff_stream.proofs.Onwards.{streams_none}
use Rattle.ff_session.specs.Giving.{Gives}
use Rattle.ff_session.specs.Once.{gives_once}
use Rattle.ff_session.specs.Plain.{plain_text, plain_entry, plain_turns, IsPlainAt}
use Rattle.ff_confinement.specs.Text.{text_of}
use Rattle.ff_confinement.specs.Standings.{fresh}
use Rattle.ff_confinement.proofs.Standings.{puts_fresh, turns_fresh}
use Rattle.ff_session.specs.Multi.{seen_by, multi_text, multi_turns, copies_entry, copies_turns, AreCopiesAt}
use Rattle.ff_session.specs.Works.{Exchanged, status_as}
use Rattle.ff_session.specs.Closing.{IsEnded, IsClosed}
use Rattle.ff_session.proofs.Closing as closing
use Rattle.ff_session.proofs.Closing.{told_of, none_put, none_owed_at}
use Rattle.ff_audit.specs.Owned.{own}
use Rattle.ff_audit.specs.Comparing.{Kept, CompareAll}
use Rattle.ff_audit.specs.Verdicts.{any_differ, report_of}
use Rattle.ff_audit.specs.Audited.{Account, plain_lines, multi_lines, report, audit_turns, feed_turns, no_entry, audit_duty, IsAuditAt, IsReported}
use Rattle.ff_audit.proofs.Heard.{own-append, own_none}
use Rattle.ff_audit.proofs.Leveled.{compare_same, same_report}

-- nothing is put for an input
pub no_text : {T E : Type 0} (r : Result T E) (IsAt : List Input → Type 0) (i : Input) (text : List ℕ) → OnOk r ((is : List Input) → IsAt is → text ≡ text ++ no_entry is i)
no_text (Ok done) IsAt i text = λ is at. sym (append-nil text)
no_text (Err e) IsAt i text = tt

-- ---- the lines of one input more

plain_longer : (p : Assignment) (is : List Input) (i : Input) (l : ℕ) → plain_lines p is l ++ own p.order (plain_entry p is i) l ≡ plain_lines p (is ++ i ∷ []) l
plain_longer p is i l = sym (own-append (levels p) p.order (plain (machine p) is) (plain_text p (is ++ i ∷ [])) (plain_entry p is i) l (plain_text_more (machine p) (levels p) is i))

multi_longer : (p : Assignment) (is : List Input) (i : Input) (l : ℕ) → multi_lines p is l ++ own p.order (copies_entry p (seen_by p) (fresh (machine p)) is i) l ≡ multi_lines p (is ++ i ∷ []) l
multi_longer p is i l = sym (own-append (levels p) p.order (multi (machine p) (levels p) is) (multi_text p (is ++ i ∷ [])) (copies_entry p (seen_by p) (fresh (machine p)) is i) l (text_more (machine p) (levels p) is i ∙ ap (λ os. multi_text p is ++ text_of (levels p) os) (sym (puts_fresh (machine p) (levels p) is i))))

-- no input
pub audit_none : (p : Assignment) (comparisons : Account) → IsPlainAt p comparisons.browser [] → AreCopiesAt p (seen_by p) (fresh (machine p)) comparisons.pool [] → length comparisons.levels ≡ size p.order → CompareAll comparisons.levels (λ l. []) (λ l. []) → IsAuditAt p comparisons []
audit_none p comparisons plain copies count all = record {
  plain = plain;
  copies = copies;
  count = count;
  levels = compare_same comparisons.levels (λ l. []) (λ l. []) (plain_lines p []) (multi_lines p [])
      (λ l. sym (own_none (levels p) p.order (plain_text p []) l (plain_text_start (machine p) (levels p))))
      (λ l. sym (own_none (levels p) p.order (multi_text p []) l (text_start (machine p) (levels p))))
      all;
}

-- one input more, whose lines came to the comparisons
pub audit_more : (p : Assignment) (comparisons now : Account) (is : List Input) (i : Input) (text other : List ℕ) → IsAuditAt p comparisons is
    → IsPlainAt p now.browser (is ++ i ∷ []) → AreCopiesAt p (seen_by p) (fresh (machine p)) now.pool (is ++ i ∷ []) → length now.levels ≡ length comparisons.levels
    → text ≡ plain_entry p is i → other ≡ copies_entry p (seen_by p) (fresh (machine p)) is i
    → ((ps ms : ℕ → List (List ℕ)) → CompareAll comparisons.levels ps ms → CompareAll now.levels (λ l. ps l ++ own p.order text l) (λ l. ms l ++ own p.order other l))
    → IsAuditAt p now (is ++ i ∷ [])
audit_more p comparisons now is i text other at plain copies count text_is other_is hears = record {
  plain = plain;
  copies = copies;
  count = count ∙ at.count;
  levels = compare_same now.levels (λ l. plain_lines p is l ++ own p.order text l) (λ l. multi_lines p is l ++ own p.order other l) (plain_lines p (is ++ i ∷ [])) (multi_lines p (is ++ i ∷ []))
      (λ l. ap (λ t. plain_lines p is l ++ own p.order t l) text_is ∙ plain_longer p is i l)
      (λ l. ap (λ t. multi_lines p is l ++ own p.order t l) other_is ∙ multi_longer p is i l)
      (hears (plain_lines p is) (multi_lines p is) at.levels);
}

-- the same of an order and of texts that are these
pub heard_as : (old new : List Kept) (order order' : Order) (text text' other other' : List ℕ) → order ≡ order' → text ≡ text' → other ≡ other'
    → ((ps ms : ℕ → List (List ℕ)) → CompareAll old ps ms → CompareAll new (λ l. ps l ++ own order text l) (λ l. ms l ++ own order other l))
    → ((ps ms : ℕ → List (List ℕ)) → CompareAll old ps ms → CompareAll new (λ l. ps l ++ own order' text' l) (λ l. ms l ++ own order' other' l))
heard_as old new order order' text text' other other' same_order same_text same_other heard =
    subst (λ o. (ps ms : ℕ → List (List ℕ)) → CompareAll old ps ms → CompareAll new (λ l. ps l ++ own o text' l) (λ l. ms l ++ own o other' l)) same_order
    (subst (λ t. (ps ms : ℕ → List (List ℕ)) → CompareAll old ps ms → CompareAll new (λ l. ps l ++ own order t l) (λ l. ms l ++ own order other' l)) same_text
    (subst (λ t. (ps ms : ℕ → List (List ℕ)) → CompareAll old ps ms → CompareAll new (λ l. ps l ++ own order text l) (λ l. ms l ++ own order t l)) same_other heard))

-- ---- what is owed

turns_more : (p : Assignment) (is : List Input) (i : Input) → audit_turns p (is ++ i ∷ []) ≡ audit_turns p is + feed_turns p is i
turns_more p is i =
    let one : work_plain (machine p) (is ++ i ∷ []) ≡ work_plain (machine p) is + plain_turns p is i = work_plain_more (machine p) is i in
    let other : multi_turns p (is ++ i ∷ []) ≡ multi_turns p is + copies_turns p (seen_by p) (fresh (machine p)) is i = work_more (machine p) (levels p) same_input is i ∙ ap (λ n. multi_turns p is + n) (sym (turns_fresh (machine p) (levels p) same_input is i)) in
    omega arith

turns_none : (p : Assignment) → audit_turns p [] ≡ 0
turns_none p =
    let one : work_plain (machine p) [] ≡ 0 = work_plain_start (machine p) in
    let other : multi_turns p [] ≡ 0 = work_start (machine p) (levels p) same_input in
    omega arith

turns_are : (p : Assignment) (is : List Input) → owed.turns_of (feed_turns p) is ≡ audit_turns p is
turns_are p is = turns_by_steps (feed_turns p) (audit_turns p) (turns_none p) (turns_more p) is

no_texts : (is : List Input) → owed.text_of no_entry is ≡ []
no_texts is = text_by_steps no_entry (λ js. []) refl (λ js i. refl) is

-- ---- the report of the comparisons

good_end : (b : Bool) → IsGood (cond b Leaks Done)
good_end true = tt
good_end false = tt

module _ (p : Assignment) (comparisons : Account) (first : List Input) (at : IsAuditAt p comparisons first) where
  -- whatever inputs the comparisons may be said to have taken
  same_text : (is : List Input) → IsAuditAt p comparisons is → report p first ≡ report p is
  same_text is other = same_report comparisons.levels (plain_lines p first) (multi_lines p first) (plain_lines p is) (multi_lines p is) at.levels other.levels p.order (size p.order) (let count = at.count in omega (arith, count))

  -- all of it was put, or a part
  pub reported : (end : End TraceFault) (leak : Bool) (text : List ℕ) (log_before log_now : Option (List Piece)) (before now : ℕ) (status : Status) (good : Status) → good ≡ cond leak Leaks Done
      → ((ps ms : ℕ → List (List ℕ)) → CompareAll comparisons.levels ps ms → leak ≡ any_differ (length comparisons.levels) ps ms)
      → ((ps ms : ℕ → List (List ℕ)) → CompareAll comparisons.levels ps ms → text ≡ [] ++ report_of p.order (size p.order) ps ms)
      → IsClosed end good text log_before log_now before now status → IsReported p comparisons end log_before log_now before now status
  reported end leak text log_before log_now before now status good good_is leak_is text_is closed = record {
    text = text;
    good = good;
    fine = subst IsGood (sym good_is) (good_end leak);
    of_books = λ is other. (
      text_is (plain_lines p is) (multi_lines p is) other.levels,
      good_is ∙ ap (λ b. cond b Leaks Done) (leak_is (plain_lines p is) (multi_lines p is) other.levels ∙ ap (λ n. any_differ n (plain_lines p is) (multi_lines p is)) other.count),
    );
    closed = closed;
  }

  -- there was no memory for it
  pub unreported : (end : End TraceFault) (log : Option (List Piece)) (writes : ℕ) → IsEnded end → (leak : Bool)
      → ((ps ms : ℕ → List (List ℕ)) → CompareAll comparisons.levels ps ms → leak ≡ any_differ (length comparisons.levels) ps ms) → IsReported p comparisons end log log writes writes NoMemory
  unreported end log writes ended leak leak_is = record {
    text = report p first;
    good = cond leak Leaks Done;
    fine = good_end leak;
    of_books = λ is other. (
      same_text is other,
      ap (λ b. cond b Leaks Done) (leak_is (plain_lines p is) (multi_lines p is) other.levels ∙ ap (λ n. any_differ n (plain_lines p is) (multi_lines p is)) other.count),
    );
    closed = none_put end (cond leak Leaks Done) (report p first) log writes ended;
  }

-- ---- the whole audit

text_are : (p : Assignment) (whole : Bool) (is : List Input) → report p is ≡ owed.text_of no_entry is ++ report p is
text_are p whole is = ap (λ t. t ++ report p is) (sym (no_texts is))

module _ (p : Assignment) {IsAt : List Input → Type 0} {log_before log_mid : Option (List Piece)} {rest_before rest_now : Option (List ℕ)} {turns_before turns_now : ℕ} (end : End TraceFault)
    (streams : Streams (Gives p.order) no_entry (feed_turns p) IsAt log_before log_mid rest_before rest_now turns_before turns_now end) where
  -- the loop failed, and nothing more was put
  unaudited : (reads_before reads_now writes_before writes_now : ℕ) → ¬ IsEnded end
      → turns_before ≤ turns_now → (end ≡ ended.ReadFault → Rose reads_before reads_now) → (end ≡ ended.WriteFault → Rose writes_before writes_now) → writes_before ≤ writes_now
      → Exchanged (Gives p.order) (audit_duty p) (told_of log_before rest_before reads_before writes_before) (told_of log_mid rest_now reads_now writes_now) turns_before turns_now (status_as end Done)
  unaudited reads_before reads_now writes_before writes_now failed later read_fault write_fault up =
      let none = none_owed_at end Done [] log_mid writes_now failed in
      closing.exchanged (gives_once p.order) (audit_duty p) end streams (turns_are p) (λ whole is. report p is) (text_are p) Done tt [] (λ ended is at. absurd (failed ended))
      none.last none.puts log_mid none.added (status_as end Done) reads_before reads_now writes_before writes_now writes_now later read_fault write_fault up (omega arith) none.closes

  -- the same of an end that is known
  pub unaudited_as : (which : End TraceFault) → end ≡ which → ¬ IsEnded which → (reads_before reads_now writes_before writes_now : ℕ)
      → turns_before ≤ turns_now → (end ≡ ended.ReadFault → Rose reads_before reads_now) → (end ≡ ended.WriteFault → Rose writes_before writes_now) → writes_before ≤ writes_now
      → Exchanged (Gives p.order) (audit_duty p) (told_of log_before rest_before reads_before writes_before) (told_of log_mid rest_now reads_now writes_now) turns_before turns_now (status_as which Done)
  unaudited_as which is failed reads_before reads_now writes_before writes_now later read_fault write_fault up =
      subst (λ e. Exchanged (Gives p.order) (audit_duty p) (told_of log_before rest_before reads_before writes_before) (told_of log_mid rest_now reads_now writes_now) turns_before turns_now (status_as e Done)) is
      (unaudited reads_before reads_now writes_before writes_now (λ e. failed (subst IsEnded is e)) later read_fault write_fault up)

-- there was no memory for the comparisons
pub unmade : (p : Assignment) (log : Option (List Piece)) (rest : Option (List ℕ)) (turns reads writes : ℕ) → Exchanged (Gives p.order) (audit_duty p) (told_of log rest reads writes) (told_of log rest reads writes) turns turns NoMemory
unmade p log rest turns reads writes =
    unaudited_as p {IsAt = λ is. ⊤} ended.NoMemory (streams_none (Gives p.order) no_entry (feed_turns p) (λ is. ⊤) log rest turns) ended.NoMemory refl (λ e. e) reads reads writes writes (omega arith) (λ e. cc) (λ e. cc) (omega arith)

-- where reading ended, the comparisons stand somewhere
pub stands : (p : Assignment) {IsAt : List Input → Type 0} {log_before log_mid : Option (List Piece)} {rest_before rest_now : Option (List ℕ)} {turns_before turns_now : ℕ} (end : End TraceFault)
    → Streams (Gives p.order) no_entry (feed_turns p) IsAt log_before log_mid rest_before rest_now turns_before turns_now end → IsEnded end → (is : List Input) × IsAt is
stands p ended.Done streams is = (streams.held.1.items, streams.held.1.at)
stands p (ended.Bad line) streams is = (streams.held.items, streams.held.at)
stands p ended.ReadFault streams is = (streams.held.1.items, streams.held.1.at)
stands p ended.WriteFault streams is = absurd is
stands p ended.NoMemory streams is = absurd is

module _ (p : Assignment) (comparisons : Account) {log_before log_mid : Option (List Piece)} {rest_before rest_now : Option (List ℕ)} {turns_before turns_now : ℕ} (end : End TraceFault)
    (streams : Streams (Gives p.order) no_entry (feed_turns p) (IsAuditAt p comparisons) log_before log_mid rest_before rest_now turns_before turns_now end) where
  -- the report was put once reading had ended
  pub audited : (s : Status) (log_now : Option (List Piece)) (reads_before reads_now writes_before writes_mid writes_now : ℕ) → IsReported p comparisons end log_mid log_now writes_mid writes_now s
      → turns_before ≤ turns_now → (end ≡ ended.ReadFault → Rose reads_before reads_now) → (end ≡ ended.WriteFault → Rose writes_before writes_mid) → writes_before ≤ writes_mid → writes_mid ≤ writes_now
      → Exchanged (Gives p.order) (audit_duty p) (told_of log_before rest_before reads_before writes_before) (told_of log_now rest_now reads_now writes_now) turns_before turns_now s
  audited s log_now reads_before reads_now writes_before writes_mid writes_now put later read_fault write_fault up more =
      closing.exchanged (gives_once p.order) (audit_duty p) end streams (turns_are p) (λ whole is. report p is) (text_are p) put.good put.fine put.text (λ ended is at. put.of_books is at)
      put.closed.last put.closed.puts log_now put.closed.added s reads_before reads_now writes_before writes_mid writes_now later read_fault write_fault up more put.closed.closes
