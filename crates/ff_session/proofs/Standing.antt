-- Where copies stand, inputs leave them: each browser valid and quiet, and levels that are one copy
-- with one browser.
use Rattle.std.proofs.Common.{◌≡◌, ℕ, true, Some, List, ◌++◌, All, refl}
use Rattle.ff_confinement.specs.Copies.{multi}
use Rattle.ff_confinement.specs.Sharing.{work}
use Rattle.ff_confinement.specs.Standings.{Standing, Offering, fresh, run, work_of}
use Rattle.ff_confinement.proofs.Standings.{run_rest, run_fresh, work_fresh}
use Rattle.ff_value.specs.declared.input.Input.{Input}
use Rattle.ff_machine.specs.State.{State}
use Rattle.ff_machine.specs.Valid.{IsState}
use Rattle.ff_value.specs.Same.{same_input}
use Rattle.ff_policy.specs.Assignment.{Assignment, IsAssignment}
use Rattle.ff_session.specs.Levels.{levels, machine}
use Rattle.ff_session.proofs.Lawful.{lawful}
use Rattle.ff_confinement.specs.Given.{IsSecureAsOffered}
use Rattle.ff_confinement.proofs.Given.{secured_as_offered}
use Rattle.ff_trace.specs.Lines.{IsInputOf}
use Rattle.ff_session.specs.Multi.{run_text, seen_by, stands_after}

-- a valid and quiet browser
pub record IsAtRest (fuel : ℕ) (s : State) : Type 0 where
  pub state : IsState fuel s
  pub quiet : s.quiet ≡ true

-- a run goes on from where its copies stand
pub goes_on : (p : Assignment) (from : Standing State) (is js : List Input)
    → run (machine p) (levels p) (seen_by p) from (is ++ js) ≡ run (machine p) (levels p) (seen_by p) from is ++ run (machine p) (levels p) (seen_by p) (stands_after p from is) js
goes_on p from is js = run_rest (machine p) (levels p) (seen_by p) from same_input is js

-- and from the start on it is the multi-executed run
pub begins_fresh : (p : Assignment) (is : List Input) → run (machine p) (levels p) (seen_by p) (fresh (machine p)) is ≡ multi (machine p) (levels p) is
begins_fresh p is = run_fresh (machine p) (levels p) is

pub works_fresh : (p : Assignment) (is : List Input) → work_of (machine p) (levels p) (seen_by p) (fresh (machine p)) same_input is ≡ work (machine p) (levels p) same_input is
works_fresh p is = work_fresh (machine p) (levels p) same_input is

-- equal offers to the levels at or below a level give equal views
pub offers_secure : (p : Assignment) (offers : Offering Input) (from : Standing State) → IsAssignment p
    → ((before : List Input) (l : ℕ) (i x : Input) → IsInputOf p.order i → offers before l i ≡ Some x → IsInputOf p.order x)
    → ((l : ℕ) → IsState p.fuel (from.states l))
    → (is : List Input) → All (IsInputOf p.order) is → IsSecureAsOffered (machine p) (levels p) offers from (IsInputOf p.order) is (run_text p offers from is)
offers_secure p offers from valid offers_ok from_ok is ok = secured_as_offered (lawful p valid) offers from offers_ok from_ok is (run_text p offers from is) ok refl
