-- What a command comes to, by what was found of its policy's name.
use Rattle.std.proofs.Common.{◌≡◌, ◌≢◌, ℕ, ◌⊎◌, inl, inr, Result, Ok, Err, List, refl, sym, subst}
use Rattle.ff_io.specs.Port.{Told}
use Rattle.ff_io.specs.Shelf.{ShelfTold}
use Rattle.ff_policy.specs.Assignment.{Assignment, IsAssignment}
use Rattle.ff_resume.specs.Resumed.{resume_duty, stand_of}
use Rattle.ff_release.specs.Releasing.{release_duty}
use Rattle.ff_session.specs.Giving.{Gives}
use Rattle.ff_run.specs.Names.{IsFetchedOrFails, FetchedOrFailed, IsKnown, IsLater, IsOutside, Kind, Names, NamesBad, Refuses}
use Rattle.ff_run.specs.Policies.{policies}
use Rattle.ff_run.specs.Rules.{rules_for}
use Rattle.ff_run.specs.States.{states_under}
use Rattle.ff_run.specs.Status.{IsEarly, IsUnfailing}
use Rattle.ff_run.specs.Run.{Carries, ComesTo, EndsBy, GoesOn, NothingFailed, Outside, Performs, outside}
use Rattle.ff_run.specs.Words.{Command, policy_of}
use Rattle.ff_status.specs.declared.status.Status.{Status}
use Rattle.ff_status.specs.declared.status.Status.TheVariants.{Done, WriteFault, ShelfFault, NoMemory, Leaks, Trace, ReadFault, Usage, Policy, Saved, Release}
use Rattle.ff_writing.specs.Checked.{check_text}
use Rattle.ff_writing.specs.Upgraded.{upgrade_text}
use Rattle.ff_writing.specs.Generated.{Generates}
use Rattle.ff_run.proofs.Finding.{accepts_found, accepts_from, accepts_refused, ends_found, ends_from}
use Rattle.ff_run.proofs.Obeying.{IsLate, exchanged_late, fetched_so, fetched_well, no_shelf_policy, policy_refusal, put_late, refused_no_usage, refused_well, rules_refusal, state_refusal}

-- drawn inputs are put as a text is
pub generated_late : (p : Assignment) (start inputs : ℕ) (before now : Told) (turns_before turns_now : ℕ) (s : Status) → Generates p start inputs before now turns_before turns_now s → IsLate before now s
generated_late p start inputs before now turns_before turns_now Done run = record { late = λ is. is; well = λ no_read no_write. tt }
generated_late p start inputs before now turns_before turns_now WriteFault run = record { late = λ is. is; well = λ no_read no_write. no_write run.held.1 }
generated_late p start inputs before now turns_before turns_now NoMemory run = record { late = λ is. is; well = λ no_read no_write. tt }
generated_late p start inputs before now turns_before turns_now Leaks run = absurd run
generated_late p start inputs before now turns_before turns_now (Trace number fault) run = absurd run
generated_late p start inputs before now turns_before turns_now ReadFault run = absurd run
generated_late p start inputs before now turns_before turns_now Usage run = absurd run
generated_late p start inputs before now turns_before turns_now (Policy fault) run = absurd run
generated_late p start inputs before now turns_before turns_now ShelfFault run = absurd run
generated_late p start inputs before now turns_before turns_now (Saved fault) run = absurd run
generated_late p start inputs before now turns_before turns_now (Release fault) run = absurd run

-- want of memory is always an answer
goes_nowhere : (c : Command) (p : Assignment) (before now : Outside) → GoesOn c p before now NoMemory
goes_nowhere (Command.resume policy from) p before now = record { bad = λ ends known names fetched. inr refl; good = λ pool known names fetched early. early }
goes_nowhere (Command.release policy rules) p before now = record { bad = λ ends known names fetched. inr refl; good = λ rs known names fetched early. early }
goes_nowhere (Command.check policy) p before now = λ early. early
goes_nowhere (Command.upgrade policy) p before now = λ early. early
goes_nowhere (Command.generate start inputs) p before now = λ early. early
goes_nowhere (Command.multi policy slice) p before now = λ early. early
goes_nowhere (Command.plain policy) p before now = λ early. early
goes_nowhere (Command.format policy) p before now = λ early. early
goes_nowhere (Command.audit policy) p before now = λ early. early
goes_nowhere (Command.travel policy) p before now = λ early. early

-- ---- how what was carried out ends

-- It is no word on the use of the command, and no fault of the outside where nothing failed.
record IsPerformed (c : Command) (before now : Outside) (s : Status) : Type 0 where
  pub no_usage : s ≢ Usage
  pub well : NothingFailed c before now → IsUnfailing s

module _ (before now : Outside) (s : Status) where
  by_late : (c : Command) → IsLate before.port now.port s → IsPerformed c before now s
  by_late c late = record { no_usage = λ e. late.late (subst IsEarly (sym e) tt); well = λ fine. late.well fine.reads fine.writes }

  performed : (c : Command) (p : Assignment) → Performs c p before now s → IsPerformed c before now s
  performed (Command.check policy) p run = by_late (Command.check policy) (put_late (check_text p.order) before.port now.port s run.listed)
  performed (Command.upgrade policy) p run = by_late (Command.upgrade policy) (put_late (upgrade_text p) before.port now.port s run.written)
  performed (Command.generate start inputs) p run = by_late (Command.generate start inputs) (generated_late p start inputs before.port now.port before.turns now.turns s run)
  performed (Command.multi policy slice) p run = by_late (Command.multi policy slice) (exchanged_late s run.exchanged)
  performed (Command.plain policy) p run = by_late (Command.plain policy) (exchanged_late s run.exchanged)
  performed (Command.format policy) p run = by_late (Command.format policy) (exchanged_late s run.exchanged)
  performed (Command.audit policy) p run = by_late (Command.audit policy) (exchanged_late s run.exchanged)
  performed (Command.travel policy) p run = by_late (Command.travel policy) (exchanged_late s run.exchanged)
  performed (Command.resume policy from) p (EndsBy.found _ stand) = by_late (Command.resume policy from) (exchanged_late s stand.held.exchanged)
  performed (Command.resume policy from) p (EndsBy.refused _ refuses untouched) =
      record { no_usage = refused_no_usage (state_refusal p) s refuses; well = λ fine. refused_well (state_refusal p) s refuses (fine.more_fetches from refl) }
  performed (Command.release policy rules) p (EndsBy.found _ stand) = by_late (Command.release policy rules) (exchanged_late s stand.held.exchanged)
  performed (Command.release policy rules) p (EndsBy.refused _ refuses untouched) =
      record { no_usage = refused_no_usage (rules_refusal p.order) s refuses; well = λ fine. refused_well (rules_refusal p.order) s refuses (fine.more_fetches rules refl) }

  obeyed : (c : Command) → EndsBy policies (policy_of c) before now (λ p ends. IsAssignment p × Performs c p before now ends) s → IsPerformed c before now s
  obeyed c (EndsBy.found _ stand) = performed c stand.found stand.held.1
  obeyed c (EndsBy.refused _ refuses untouched) = record { no_usage = refused_no_usage policy_refusal s refuses; well = λ fine. refused_well policy_refusal s refuses fine.fetches }

-- so the words are a command
pub no_usage : (c : Command) (before now : Outside) (s : Status) → ComesTo c before now s → s ≢ Usage
no_usage c before now s comes = (obeyed before now s c comes.obeys).no_usage

-- there is nothing of a name, and nothing was touched since
pub refused_at_once : {X : Type 0} (kind : Kind X) (name : List ℕ) (shelf mid : ShelfTold) (port : Told) (turns : ℕ) {by : X → Status → Type 0} (s : Status) → Refuses kind shelf mid name s → EndsBy kind name (outside shelf port turns) (outside mid port turns) by s
refused_at_once kind name shelf mid port turns s refuses = EndsBy.refused s refuses (record { port = refl; turns = refl })

-- ---- by a shelf before the fetch of the policy

module _ (p : Assignment) (shelf mid : ShelfTold) (later : IsLater shelf mid) (port : Told) (turns : ℕ) (now : Outside) (s : Status) where
  performs_from : (c : Command) → Performs c p (outside mid port turns) now s → Performs c p (outside shelf port turns) now s
  performs_from (Command.check policy) run = run
  performs_from (Command.upgrade policy) run = run
  performs_from (Command.generate start inputs) run = run
  performs_from (Command.multi policy slice) run = run
  performs_from (Command.plain policy) run = run
  performs_from (Command.format policy) run = run
  performs_from (Command.audit policy) run = run
  performs_from (Command.travel policy) run = run
  performs_from (Command.resume policy from) run = ends_from (states_under p) shelf mid later from port turns now (λ pool. Carries (Gives p.order) (resume_duty p (stand_of pool)) port now.port turns now.turns) s run
  performs_from (Command.release policy rules) run = ends_from (rules_for p.order) shelf mid later rules port turns now (λ rs. Carries (Gives p.order) (release_duty p rs) port now.port turns now.turns) s run

  goes_from : (c : Command) → GoesOn c p (outside mid port turns) now s → GoesOn c p (outside shelf port turns) now s
  goes_from (Command.check policy) goes = goes
  goes_from (Command.upgrade policy) goes = goes
  goes_from (Command.generate start inputs) goes = goes
  goes_from (Command.multi policy slice) goes = goes
  goes_from (Command.plain policy) goes = goes
  goes_from (Command.format policy) goes = goes
  goes_from (Command.audit policy) goes = goes
  goes_from (Command.travel policy) goes = goes
  goes_from (Command.resume policy from) goes = accepts_from (states_under p) shelf mid later from port turns now (λ pool. ¬ IsEarly s) s goes
  goes_from (Command.release policy rules) goes = accepts_from (rules_for p.order) shelf mid later rules port turns now (λ rs. ¬ IsEarly s) s goes

-- ---- by what was found of the policy's name

module _ (c : Command) (shelf mid : ShelfTold) (port : Told) (turns : ℕ) (found : Result Assignment Status)
    (only : (p : Assignment) → IsKnown shelf (policy_of c) → Names policies shelf (policy_of c) p → (found ≡ Ok p) ⊎ IsOutside found)
    (exact : (s : Status) → IsKnown shelf (policy_of c) → NamesBad policies shelf (policy_of c) s → (found ≡ Err s) ⊎ IsOutside found)
    (fetched : IsFetchedOrFails shelf mid found) where
  -- a policy was found, under which it was carried out
  pub comes_under : (p : Assignment) → found ≡ Ok p → Names policies shelf (policy_of c) p → IsAssignment p → IsLater shelf mid → (now : Outside) (s : Status) → Performs c p (outside mid port turns) now s → GoesOn c p (outside mid port turns) now s
      → FetchedOrFailed mid now.shelf s → ComesTo c (outside shelf port turns) now s
  comes_under p is named valid later now s performs goes more =
      let before = outside shelf port turns in
      let obeys = ends_found policies before (policy_of c) found only exact p is named now (λ q ends. IsAssignment q × Performs c q before now ends) s (valid, performs_from p shelf mid later port turns now s c performs) in
      record {
        obeys = obeys;
        accepts = accepts_found policies before (policy_of c) found only exact p is named now (λ q. GoesOn c q before now s) s (goes_from p shelf mid later port turns now s c goes);
        fetched = fetched_well shelf mid now.shelf found p s is fetched more;
        complete = (obeyed before now s c obeys).well;
      }

  -- there is none
  pub comes_refused : (s : Status) → found ≡ Err s → Refuses policies shelf mid (policy_of c) s → ComesTo c (outside shelf port turns) (outside mid port turns) s
  comes_refused s is refuses =
      let before = outside shelf port turns in
      let now = outside mid port turns in
      let obeys : EndsBy policies (policy_of c) before now (λ p ends. IsAssignment p × Performs c p before now ends) s = EndsBy.refused s refuses (record { port = refl; turns = refl }) in
      record {
        obeys = obeys;
        accepts = accepts_refused policies before (policy_of c) found only exact now s is refuses no_shelf_policy (λ p ends. GoesOn c p before now ends) (λ p. goes_nowhere c p before now);
        fetched = fetched_so shelf mid found s is fetched;
        complete = (obeyed before now s c obeys).well;
      }
