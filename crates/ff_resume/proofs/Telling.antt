-- What the text of a resumed run tells.
use Rattle.std.proofs.Common.{◌≡◌, ℕ, ◌<◌, ◌≤◌, ◌⊎◌, inl, inr, Option, None, List, All, sym, subst, arith, length}
use Rattle.std.proofs.lemmas.Bool.{cases_lt}
use Rattle.std.proofs.lemmas.List.{get_or_past}
use Rattle.ff_io.specs.Pieces.{got_of, has_end, put_of}
use Rattle.ff_io.specs.Port.{Told}
use Rattle.ff_confinement.specs.Standings.{Standing}
use Rattle.ff_contract.specs.Lists.{Begins}
use Rattle.ff_confinement.specs.Worlds.{new_copy}
use Rattle.ff_lattice.specs.Order.{size}
use Rattle.ff_machine.specs.Machine.{reactor}
use Rattle.ff_machine.specs.State.{State}
use Rattle.ff_machine.specs.Valid.{IsState}
use Rattle.ff_policy.specs.Assignment.{Assignment, IsAssignment}
use Rattle.ff_pool.specs.Pooled.{Pooled}
use Rattle.ff_pool.specs.Restored.{IsResting}
use Rattle.ff_trace.specs.Lines.{IsInputOf}
use Rattle.ff_value.specs.declared.input.Input.{Input}
use Rattle.ff_status.specs.declared.status.Status.{Status}
use Rattle.ff_status.specs.declared.status.Status.TheVariants.{Done, Leaks, Usage, Policy, Trace, ReadFault, WriteFault, ShelfFault, NoMemory, Saved, Release}
use Rattle.ff_status.specs.declared.status.TraceFault.{TraceFault}
use Rattle.ff_stream.specs.declared.end.BadLine.{BadLine}
use Rattle.ff_stream.proofs.Laws.{reads_each, trace_once}
use Rattle.ff_session.specs.Giving.{Gives}
use Rattle.ff_session.specs.Multi.{run_text, seen_by}
use Rattle.ff_session.specs.Once.{gives_once}
use Rattle.ff_session.specs.Claims.{AreInputsGot, Claims, IsAnswered}
use Rattle.ff_session.specs.Works.{Exchanged, IsOwed, IsWritten}
use Rattle.ff_session.proofs.Anywhere.{own_from, view_from}
use Rattle.ff_session.proofs.Giving.{is_given}
use Rattle.ff_session.proofs.Lawful.{lawful}
use Rattle.ff_resume.specs.Resumed.{IsResumed, closing_text, resume_duty, stand_of}

-- the copies of a pool at rest stand in valid states
module _ (p : Assignment) (valid : IsAssignment p) (pool : Pooled) (rests : IsResting (size p.order) p.fuel pool) where
  state_ok : (l : ℕ) → IsState p.fuel ((stand_of pool).states l)
  state_ok l = from (cases_lt l (length pool.world.leaders))
    where
      from : (l < length pool.world.leaders) ⊎ (length pool.world.leaders ≤ l) → IsState p.fuel ((stand_of pool).states l)
      from (inl lt) = subst (λ f. IsState f ((stand_of pool).states l)) rests.fuel_is (rests.valid.ok l lt).state_ok
      from (inr past) =
          subst (λ c. IsState p.fuel c.state) (sym (get_or_past pool.world.copies l (new_copy (reactor pool.fuel)) (omega (arith, past, rests.valid.count))))
          (subst (λ f. IsState p.fuel (new_copy (reactor f)).state) (sym rests.fuel_is) (lawful p valid).start_ok)

-- what a resumed run that was carried out tells
module _ {before now : Told} {turns_before turns_now : ℕ} (p : Assignment) (from : Standing State) (s : Status) (run : Exchanged (Gives p.order) (resume_duty p from) before now turns_before turns_now s) where
  begins_so : {holds : List Input → Type 0} (other bad : Option (BadLine TraceFault)) (paid : IsOwed (Gives p.order) (resume_duty p from) run.pieces other turns_before turns_now holds) (is : List Input) → AreInputsGot p run.pieces is bad
      → Begins (put_of run.pieces) (run_text p (seen_by p) from is)
  begins_so other bad paid is reads =
      let same : paid.items ≡ is = (trace_once (gives_once p.order) (has_end run.pieces) (got_of run.pieces) paid.items is other bad paid.read reads).0 in
      subst (λ js. Begins (put_of run.pieces) (run_text p (seen_by p) from js)) same (closing_text p from _ paid.items, paid.text_is)

  begins : (t : Status) → IsAnswered t → IsWritten (Gives p.order) (resume_duty p from) t run.pieces turns_before turns_now → (is : List Input) (bad : Option (BadLine TraceFault)) → AreInputsGot p run.pieces is bad
      → Begins (put_of run.pieces) (run_text p (seen_by p) from is)
  begins Done answered written is bad reads = begins_so None bad written.1 is reads
  begins Leaks answered written is bad reads = begins_so None bad written.1 is reads
  begins (Trace number fault) answered written is bad reads = begins_so _ bad written.owed_is is reads
  begins ReadFault answered written is bad reads = begins_so None bad written.1 is reads
  begins Usage answered written is bad reads = absurd answered
  begins (Policy fault) answered written is bad reads = absurd answered
  begins WriteFault answered written is bad reads = absurd answered
  begins ShelfFault answered written is bad reads = absurd answered
  begins NoMemory answered written is bad reads = absurd answered
  begins (Saved fault) answered written is bad reads = absurd answered
  begins (Release fault) answered written is bad reads = absurd answered

  told : IsAssignment p → ((l : ℕ) → IsState p.fuel (from.states l)) → IsAnswered s → Claims p before now (λ is put. IsResumed p from is put)
  told valid from_ok answered = record {
    pieces = run.pieces;
    passed = run.passed;
    held = λ is bad reads.
        let fit : All (IsInputOf p.order) is = reads_each (IsInputOf p.order) (is_given p.order) (has_end run.pieces) 1 0 (got_of run.pieces) is bad reads in
        record {
          begins = begins s answered run.written is bad reads;
          projected = λ l within. own_from p from valid from_ok l within is fit;
          secure = λ l js within fits alike. view_from p from valid from_ok l within is fit js fits alike;
        };
  }

-- from where the copies of a pool at rest stand
pub resumed_run : {before now : Told} {turns_before turns_now : ℕ} (p : Assignment) (pool : Pooled) (s : Status) → IsResting (size p.order) p.fuel pool → Exchanged (Gives p.order) (resume_duty p (stand_of pool)) before now turns_before turns_now s → IsAssignment p → IsAnswered s
    → Claims p before now (λ is put. IsResumed p (stand_of pool) is put)
resumed_run p pool s rests run valid answered = told p (stand_of pool) s run valid (state_ok p valid pool rests) answered
