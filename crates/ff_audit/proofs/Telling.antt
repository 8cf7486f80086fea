-- What the report and the status of an audit tell.
use Rattle.std.proofs.Common.{◌≡◌, ℕ, ◌<◌, Bool, true, false, cond, Option, None, List, All, refl, sym, ap, ◌∙◌}
use Rattle.ff_io.specs.Pieces.{got_of, has_end, put_of}
use Rattle.ff_io.specs.Port.{Told}
use Rattle.ff_confinement.specs.Copies.{seen}
use Rattle.ff_confinement.proofs.Lists.{flat_map_agree_below}
use Rattle.ff_lattice.specs.Order.{name, size}
use Rattle.ff_value.specs.declared.input.Input.{Input}
use Rattle.ff_policy.specs.Assignment.{Assignment, IsAssignment}
use Rattle.ff_trace.specs.Lines.{IsInputOf}
use Rattle.ff_status.specs.declared.status.Status.{Status}
use Rattle.ff_status.specs.declared.status.Status.TheVariants.{Done, Leaks, Usage, Policy, Trace, ReadFault, WriteFault, ShelfFault, NoMemory, Saved, Release}
use Rattle.ff_status.specs.declared.status.TraceFault.{TraceFault}
use Rattle.ff_stream.specs.declared.end.BadLine.{BadLine}
use Rattle.ff_stream.proofs.Laws.{reads_each, trace_once}
use Rattle.ff_audit.specs.Comparing.{compared}
use Rattle.ff_audit.specs.Verdicts.{report_of, verdict_text}
use Rattle.ff_audit.proofs.Verdicts.{none_differ, some_differ}
use Rattle.ff_session.specs.Giving.{Gives}
use Rattle.ff_session.specs.Levels.{levels}
use Rattle.ff_session.specs.Once.{gives_once}
use Rattle.ff_session.specs.Claims.{AreInputsGot, Claims, IsAnswered}
use Rattle.ff_session.specs.Works.{Exchanged, IsOwed, IsWritten}
use Rattle.ff_session.proofs.Giving.{is_given}
use Rattle.ff_audit.specs.Audited.{IsAudit, IsLeak, audit_duty, ending, leaks, multi_lines, plain_lines, report}
use Rattle.ff_audit.proofs.Witness.{multi_is_plain_seen, seen_again, seen_inputs}

-- an end tells whether some level's lines differ
ends_done : (b : Bool) → cond b Leaks Done ≡ Done → b ≡ false
ends_done true e = cc
ends_done false e = refl

ends_leaks : (b : Bool) → cond b Leaks Done ≡ Leaks → b ≡ true
ends_leaks true e = refl
ends_leaks false e = cc

module _ (p : Assignment) (valid : IsAssignment p) (is : List Input) (ok : All (IsInputOf p.order) is) where
  -- the report on the inputs is the report on the plain browser alone
  report_seen : report p is ≡ report_of p.order (size p.order) (plain_lines p is) (λ l. plain_lines p (seen (levels p) l is) l)
  report_seen =
      flat_map_agree_below (λ l. verdict_text (name p.order l) (compared 0 (plain_lines p is l) (multi_lines p is l)))
      (λ l. verdict_text (name p.order l) (compared 0 (plain_lines p is l) (plain_lines p (seen (levels p) l is) l))) (size p.order)
      (λ l within. ap (λ ms. verdict_text (name p.order l) (compared 0 (plain_lines p is l) ms)) (multi_is_plain_seen p valid l within is ok))

  no_leak : ending p is ≡ Done → (l : ℕ) → l < size p.order → plain_lines p is l ≡ plain_lines p (seen (levels p) l is) l
  no_leak done l within = none_differ (size p.order) (plain_lines p is) (multi_lines p is) (ends_done (leaks p is) done) l within ∙ multi_is_plain_seen p valid l within is ok

  some_leak : ending p is ≡ Leaks → (l : ℕ) × IsLeak p is l
  some_leak found =
      let differ = some_differ (size p.order) (plain_lines p is) (multi_lines p is) (ends_leaks (leaks p is) found) in (
        differ.level,
        record {
          within = differ.within;
          inputs = seen_inputs p valid differ.level differ.within is ok;
          alike = seen_again p valid differ.level differ.within is ok;
          other = λ same. differ.other (same ∙ sym (multi_is_plain_seen p valid differ.level differ.within is ok));
        },
      )

-- what an audit that was carried out tells
module _ {before now : Told} {turns_before turns_now : ℕ} (p : Assignment) (s : Status) (run : Exchanged (Gives p.order) (audit_duty p) before now turns_before turns_now s) where
  -- the items whose text was put are those that the bytes got give
  same_items : {holds : List Input → Type 0} (other bad : Option (BadLine TraceFault)) (paid : IsOwed (Gives p.order) (audit_duty p) run.pieces other turns_before turns_now holds) (is : List Input) → AreInputsGot p run.pieces is bad → paid.items ≡ is
  same_items other bad paid is reads = (trace_once (gives_once p.order) (has_end run.pieces) (got_of run.pieces) paid.items is other bad paid.read reads).0

  abbrev Tells : Status → List Input → Type 0
  Tells t is = (put_of run.pieces ≡ report p is) × ((t ≡ Done → ending p is ≡ Done) × (t ≡ Leaks → ending p is ≡ Leaks))

  -- what was put, and where the whole trace was read, how it ends
  tells : (t : Status) → IsAnswered t → IsWritten (Gives p.order) (audit_duty p) t run.pieces turns_before turns_now → (is : List Input) (bad : Option (BadLine TraceFault)) → AreInputsGot p run.pieces is bad → Tells t is
  tells Done answered written is bad reads =
      let same = same_items None bad written.1 is reads in
      (written.1.text_is ∙ ap (report p) same, (λ e. ap (ending p) (sym same) ∙ written.1.held, λ e. cc))
  tells Leaks answered written is bad reads =
      let same = same_items None bad written.1 is reads in
      (written.1.text_is ∙ ap (report p) same, (λ e. cc, λ e. ap (ending p) (sym same) ∙ written.1.held))
  tells (Trace number fault) answered written is bad reads = (written.owed_is.text_is ∙ ap (report p) (same_items _ bad written.owed_is is reads), (λ e. cc, λ e. cc))
  tells ReadFault answered written is bad reads = (written.1.text_is ∙ ap (report p) (same_items None bad written.1 is reads), (λ e. cc, λ e. cc))
  tells Usage answered written is bad reads = absurd answered
  tells (Policy fault) answered written is bad reads = absurd answered
  tells WriteFault answered written is bad reads = absurd answered
  tells ShelfFault answered written is bad reads = absurd answered
  tells NoMemory answered written is bad reads = absurd answered
  tells (Saved fault) answered written is bad reads = absurd answered
  tells (Release fault) answered written is bad reads = absurd answered

  pub audited_run : IsAssignment p → IsAnswered s → Claims p before now (λ is put. IsAudit p s is put)
  audited_run valid answered = record {
    pieces = run.pieces;
    passed = run.passed;
    held = λ is bad reads.
        let fit : All (IsInputOf p.order) is = reads_each (IsInputOf p.order) (is_given p.order) (has_end run.pieces) 1 0 (got_of run.pieces) is bad reads in
        let told = tells s answered run.written is bad reads in
        record {
          report_is = told.0 ∙ report_seen p valid is fit;
          clean = λ done. no_leak p valid is fit (told.1.0 done);
          leak = λ found. some_leak p valid is fit (told.1.1 found);
        };
  }
