-- A command is obeyed under the policy that was found, by what was found of its other file.
use Rattle.std.proofs.Common.{◌≡◌, ◌≢◌, ℕ, ◌⊎◌, inl, inr, Option, Result, Ok, Err, List, [], refl, ◌∙◌}
use Rattle.ff_io.specs.Counts.{Rose}
use Rattle.ff_io.specs.Port.{Told}
use Rattle.ff_io.specs.Shelf.{ShelfTold}
use Rattle.ff_lattice.specs.Order.{Order}
use Rattle.ff_policy.specs.Assignment.{Assignment}
use Rattle.ff_saved_rows.specs.declared.fault.SavedFault.TheVariants as saved
use Rattle.ff_session.specs.Claims.{IsAnswered}
use Rattle.ff_session.specs.Giving.{Gives}
use Rattle.ff_session.specs.Once.{gives_once}
use Rattle.ff_session.specs.Works.{Duty, Exchanged, IsWritten}
use Rattle.ff_session.proofs.Counted.{counts}
use Rattle.ff_travel.specs.Giving as commands
use Rattle.ff_travel.specs.Once as once
use Rattle.ff_travel.specs.declared.command.Command.{Command}
use Rattle.ff_value.specs.declared.input.Input.{Input}
use Rattle.ff_run.specs.Names.{FetchedOrFailed, IsFetchedOrFails, IsUnfetched, Kind, Refuses}
use Rattle.ff_run.specs.Policies.{IsBadPolicy}
use Rattle.ff_run.specs.Rules.{AreBadRules}
use Rattle.ff_run.specs.States.{IsBadState}
use Rattle.ff_run.specs.Status.{IsEarly, IsUncopied, IsUnfailing}
use Rattle.ff_run.specs.Run.{Carries}
use Rattle.ff_status.specs.Words.{IsGood, error_line}
use Rattle.ff_status.specs.declared.status.TraceFault.{TraceFault}
use Rattle.ff_status.specs.declared.status.Status.{Status}
use Rattle.ff_status.specs.declared.status.Status.TheVariants.{Done, Leaks, Usage, Policy, Trace, ReadFault, WriteFault, ShelfFault, NoMemory, Saved, Release}
use Rattle.ff_writing.specs.Checked.{IsPut}

-- ---- what the bytes of a file end a run with

-- no bytes fail to be fetched
pub no_shelf_policy : (bytes : List ℕ) → IsBadPolicy bytes ShelfFault → ⊥
no_shelf_policy bytes bad = from ShelfFault bad refl
  where
    from : (s : Status) → IsBadPolicy bytes s → s ≡ ShelfFault → ⊥
    from _ (IsBadPolicy.faulty fault is) e = cc

pub no_shelf_rules : (order : Order) (bytes : List ℕ) → AreBadRules order bytes ShelfFault → ⊥
no_shelf_rules order bytes bad = from ShelfFault bad refl
  where
    from : (s : Status) → AreBadRules order bytes s → s ≡ ShelfFault → ⊥
    from _ (AreBadRules.faulty fault is) e = cc

pub no_shelf_state : (p : Assignment) (bytes : List ℕ) → IsBadState p bytes ShelfFault → ⊥
no_shelf_state p bytes bad = from ShelfFault bad refl
  where
    from : (s : Status) → IsBadState p bytes s → s ≡ ShelfFault → ⊥
    from _ (IsBadState.faulty fault is) e = cc

-- how a run ends by what is wrong with a file is no answer, no word on its use, and no fault of the
-- outside
pub record IsRefusal (s : Status) : Type 0 where
  pub unanswered : ¬ IsAnswered s
  pub no_usage : s ≢ Usage
  pub well : IsUnfailing s

module _ {X : Type 0} {kind : Kind X} {before now : ShelfTold} {name : List ℕ} (bad : (bytes : List ℕ) (t : Status) → kind.is_bad bytes t → IsRefusal t) where
  pub refused_unanswered : (s : Status) → Refuses kind before now name s → ¬ IsAnswered s
  refused_unanswered _ (Refuses.no_file no_dash failed) answered = answered
  refused_unanswered _ (Refuses.bad_file s names) answered = (bad names.bytes s names.bad).unanswered answered
  refused_unanswered _ Refuses.no_memory answered = answered

  pub refused_no_usage : (s : Status) → Refuses kind before now name s → s ≢ Usage
  refused_no_usage _ (Refuses.no_file no_dash failed) e = cc
  refused_no_usage _ (Refuses.bad_file s names) e = (bad names.bytes s names.bad).no_usage e
  refused_no_usage _ Refuses.no_memory e = cc

  pub refused_well : (s : Status) → Refuses kind before now name s → ¬ IsUnfetched name before now → IsUnfailing s
  refused_well _ (Refuses.no_file no_dash failed) none = absurd (none (no_dash, failed))
  refused_well _ (Refuses.bad_file s names) none = (bad names.bytes s names.bad).well
  refused_well _ Refuses.no_memory none = tt

pub policy_refusal : (bytes : List ℕ) (s : Status) → IsBadPolicy bytes s → IsRefusal s
policy_refusal bytes _ (IsBadPolicy.faulty fault is) = record { unanswered = λ answered. answered; no_usage = λ e. cc; well = tt }

pub rules_refusal : (order : Order) (bytes : List ℕ) (s : Status) → AreBadRules order bytes s → IsRefusal s
rules_refusal order bytes _ (AreBadRules.faulty fault is) = record { unanswered = λ answered. answered; no_usage = λ e. cc; well = tt }

pub state_refusal : (p : Assignment) (bytes : List ℕ) (s : Status) → IsBadState p bytes s → IsRefusal s
state_refusal p bytes _ (IsBadState.faulty fault is) = record { unanswered = λ answered. answered; no_usage = λ e. cc; well = tt }

-- ---- what is carried out

-- how it ends where something goes over a trace, or puts a text alone
pub record IsLate (before now : Told) (status : Status) : Type 0 where
  pub late : ¬ IsEarly status
  pub well : ¬ Rose before.read_faults now.read_faults → ¬ Rose before.write_faults now.write_faults → IsUnfailing status

module _ {X : Type 0} {Given : List ℕ → Result (Option X) TraceFault → Type 0} {owed : Duty X} {before now : Told} {turns_before turns_now : ℕ} (s : Status) (run : Exchanged Given owed before now turns_before turns_now s) where
  early : (t : Status) → IsWritten Given owed t run.pieces turns_before turns_now → ¬ IsEarly t
  early Done written is = is
  early Leaks written is = is
  early (Trace number fault) written is = is
  early ReadFault written is = is
  early WriteFault written is = is
  early NoMemory written is = is
  early Usage written is = written
  early (Policy fault) written is = written
  early ShelfFault written is = written
  early (Saved fault) written is = written
  early (Release fault) written is = written

  well_ended : {r w : Type 0} (t : Status) → IsWritten Given owed t run.pieces turns_before turns_now → (t ≡ ReadFault → r) → (t ≡ WriteFault → w) → ¬ r → ¬ w → IsUnfailing t
  well_ended Done written reads writes no_read no_write = tt
  well_ended Leaks written reads writes no_read no_write = tt
  well_ended (Trace number fault) written reads writes no_read no_write = tt
  well_ended ReadFault written reads writes no_read no_write = no_read (reads refl)
  well_ended WriteFault written reads writes no_read no_write = no_write (writes refl)
  well_ended NoMemory written reads writes no_read no_write = tt
  well_ended Usage written reads writes no_read no_write = tt
  well_ended (Policy fault) written reads writes no_read no_write = tt
  well_ended ShelfFault written reads writes no_read no_write = written
  well_ended (Saved fault) written reads writes no_read no_write = tt
  well_ended (Release fault) written reads writes no_read no_write = tt

  pub exchanged_late : IsLate before now s
  exchanged_late = record { late = early s run.written; well = λ no_read no_write. well_ended s run.written run.read_fault run.write_fault no_read no_write }

pub put_late : (text : List ℕ) (before now : Told) (s : Status) → IsPut text before now s → IsLate before now s
put_late text before now Done put = record { late = λ is. is; well = λ no_read no_write. tt }
put_late text before now WriteFault put = record { late = λ is. is; well = λ no_read no_write. no_write put.1 }
put_late text before now NoMemory put = record { late = λ is. is; well = λ no_read no_write. tt }
put_late text before now Leaks put = absurd put
put_late text before now (Trace number fault) put = absurd put
put_late text before now ReadFault put = absurd put
put_late text before now Usage put = absurd put
put_late text before now (Policy fault) put = absurd put
put_late text before now ShelfFault put = absurd put
put_late text before now (Saved fault) put = absurd put
put_late text before now (Release fault) put = absurd put

-- an end before any cell is copied comes before the port is touched
pub is_early : (s : Status) → IsUncopied s → IsEarly s
is_early Usage is = tt
is_early (Policy fault) is = tt
is_early ShelfFault is = tt
is_early (Release fault) is = tt
is_early (Saved fault) is = tt
is_early Done is = is
is_early Leaks is = is
is_early (Trace number fault) is = is
is_early ReadFault is = is
is_early WriteFault is = is
is_early NoMemory is = is

-- what was exchanged for inputs is what is carried, and for the commands of a travel
module _ (p : Assignment) {before now : Told} {turns_before turns_now : ℕ} (s : Status) where
  pub carries : (owed : Duty Input) → Exchanged (Gives p.order) owed before now turns_before turns_now s → Carries (Gives p.order) owed before now turns_before turns_now s
  carries owed run = record { exchanged = run; counted = λ answered. counts (gives_once p.order) owed s run answered }

  pub carries_commands : (owed : Duty Command) → Exchanged (commands.Gives p.order) owed before now turns_before turns_now s → Carries (commands.Gives p.order) owed before now turns_before turns_now s
  carries_commands owed run = record { exchanged = run; counted = λ answered. counts (once.gives_once p.order) owed s run answered }

-- ---- fetches that failed

pub fetched_so : {X : Type 0} (shelf shelf_now : ShelfTold) (found : Result X Status) (s : Status) → found ≡ Err s → IsFetchedOrFails shelf shelf_now found → FetchedOrFailed shelf shelf_now s
fetched_so shelf shelf_now found s is (inl e) = inl (cc)
fetched_so shelf shelf_now found s is (inr same) = inr same

pub fetched_well : {X : Type 0} (shelf mid shelf_now : ShelfTold) (found : Result X Status) (x : X) (s : Status) → found ≡ Ok x → IsFetchedOrFails shelf mid found → FetchedOrFailed mid shelf_now s → FetchedOrFailed shelf shelf_now s
fetched_well shelf mid shelf_now found x s is (inl e) then = absurd (cc)
fetched_well shelf mid shelf_now found x s is (inr same) (inl e) = inl e
fetched_well shelf mid shelf_now found x s is (inr same) (inr more) = inr (λ name. more name ∙ same name)

pub fetched_none : {X : Type 0} (shelf mid : ShelfTold) (found : Result X Status) (x : X) (s : Status) → found ≡ Ok x → IsFetchedOrFails shelf mid found → FetchedOrFailed shelf mid s
fetched_none shelf mid found x s is fetched = fetched_well shelf mid mid found x s is fetched (inr (λ name. refl))

-- a status without a line is that of work that was done to its end
pub said_none : (s : Status) → error_line s ≡ [] → IsGood s
said_none Done none = tt
said_none Leaks none = tt
said_none Usage none = cc
said_none (Policy fault) none = cc
said_none (Trace number fault) none = cc
said_none ReadFault none = cc
said_none WriteFault none = cc
said_none ShelfFault none = cc
said_none NoMemory none = cc
said_none (Saved saved.OtherPolicy) none = cc
said_none (Saved saved.NotSaved) none = cc
said_none (Release fault) none = cc
