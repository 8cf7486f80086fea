-- What a run does, by its command and its status.
use Rattle.std.specs.Prelude.{◌≡◌, ◌⊎◌, ⊤, ℕ, Option, Result, List, String}
use Rattle.std.proofs.Common.{Global}
use Rattle.ff_io.specs.Counts.{Rose}
use Rattle.ff_io.specs.Port.{Told, SinkTold}
use Rattle.ff_io.specs.Shelf.{ShelfTold}
use Rattle.ff_policy.specs.Assignment.{Assignment, IsAssignment}
use Rattle.ff_session.specs.Giving.{Gives}
use Rattle.ff_session.specs.Claims.{IsAnswered}
use Rattle.ff_session.specs.Works.{Counts, Duty, Exchanged, multi_duty, plain_duty, format_duty}
use Rattle.ff_status.specs.Putting.{Reported}
use Rattle.ff_status.specs.declared.status.Status.{Status}
use Rattle.ff_status.specs.declared.status.Status.TheVariants.{Usage, NoMemory}
use Rattle.ff_status.specs.declared.status.TraceFault.{TraceFault}
use Rattle.ff_audit.specs.Audited.{audit_duty}
use Rattle.ff_travel.specs.Giving as commands
use Rattle.ff_travel.specs.Owed.{travel_duty}
use Rattle.ff_resume.specs.Resumed.{resume_duty, stand_of}
use Rattle.ff_release.specs.Releasing.{release_duty}
use Rattle.ff_run.specs.Names.{FetchFailed, FetchedOrFailed, IsKnown, IsUnfetched, Kind, Names, NamesBad, Refuses, StandsFor}
use Rattle.ff_run.specs.Policies.{policies}
use Rattle.ff_run.specs.Rules.{rules_for}
use Rattle.ff_run.specs.States.{states_under}
use Rattle.ff_run.specs.Status.{IsEarly, IsUnfailing}
use Rattle.ff_run.specs.Words.{AreCommand, Command, IsFileOf, policy_of}
use Rattle.ff_writing.specs.Checked.{Checks}
use Rattle.ff_writing.specs.Upgraded.{Upgrades}
use Rattle.ff_writing.specs.Generated.{Generates}

-- the words are no command at `Usage`, and a command at each other status
abbrev pub Suits : Status → List (String Global) → Type 0
Suits Usage words = ¬ AreCommand words
Suits other words = AreCommand words

-- What the outside tells at one moment: the shelf, the port, and how many turns were made.
pub record Outside : Type 0 where
  pub shelf : ShelfTold
  pub port : Told
  pub turns : ℕ

abbrev pub outside : ShelfTold → Told → ℕ → Outside
outside shelf port turns = record { shelf = shelf; port = port; turns = turns }

-- Nothing was got or put, no call of the port failed, and no turn was made.
pub record IsUntouched (before now : Outside) : Type 0 where
  pub port : now.port ≡ before.port
  pub turns : now.turns ≡ before.turns

-- By what a name of this kind stands for.
module _ {X : Type 0} (kind : Kind X) (name : List ℕ) (before now : Outside) where
  -- It stands for something by which this is how it ends; or for nothing, which is how it ends
  -- then, and nothing is touched.
  pub data EndsBy (by : X → Status → Type 0) : Status → Type 0 where
    found : (status : Status) → StandsFor kind before.shelf name (λ x. by x status) → EndsBy by status
    refused : (status : Status) → Refuses kind before.shelf now.shelf name status → IsUntouched before now → EndsBy by status

  -- What is wrong with the file of this name is what it ends with, and by what else the name stands
  -- for, this holds: where that is known and no fetch of it failed.
  pub record Accepts (by : X → Type 0) (status : Status) : Type 0 where
    pub bad : (ends : Status) → IsKnown before.shelf name → NamesBad kind before.shelf name ends → ¬ FetchFailed name before.shelf now.shelf → (status ≡ ends) ⊎ (status ≡ NoMemory)
    pub good : (x : X) → IsKnown before.shelf name → Names kind before.shelf name x → ¬ FetchFailed name before.shelf now.shelf → by x

-- A command goes over a trace, by what its lines give and by what it owes for that: what was put,
-- promptly, in how many turns, and why; and where all of its text was put, exactly the turns of
-- what was got.
pub record Carries {X : Type 0} (Given : List ℕ → Result (Option X) TraceFault → Type 0) (owed : Duty X) (before now : Told) (turns_before turns_now : ℕ) (status : Status) : Type 0 where
  pub exchanged : Exchanged Given owed before now turns_before turns_now status
  pub counted : IsAnswered status → Counts Given owed before now turns_before turns_now

-- What each command does under a policy: the duties of those that go over a trace, one a row, and
-- what the others write.
abbrev pub Performs : Command → Assignment → Outside → Outside → Status → Type 0
Performs (Command.check policy) p before now = Checks p.order before.port now.port before.turns now.turns
Performs (Command.upgrade policy) p before now = Upgrades p before.port now.port before.turns now.turns
Performs (Command.generate start inputs) p before now = Generates p start inputs before.port now.port before.turns now.turns
Performs (Command.multi policy slice) p before now = Carries (Gives p.order) (multi_duty p) before.port now.port before.turns now.turns
Performs (Command.plain policy) p before now = Carries (Gives p.order) (plain_duty p) before.port now.port before.turns now.turns
Performs (Command.format policy) p before now = Carries (Gives p.order) (format_duty p) before.port now.port before.turns now.turns
Performs (Command.audit policy) p before now = Carries (Gives p.order) (audit_duty p) before.port now.port before.turns now.turns
Performs (Command.travel policy) p before now = Carries (commands.Gives p.order) (travel_duty p) before.port now.port before.turns now.turns
Performs (Command.resume policy from) p before now = EndsBy (states_under p) from before now (λ pool. Carries (Gives p.order) (resume_duty p (stand_of pool)) before.port now.port before.turns now.turns)
Performs (Command.release policy rules) p before now = EndsBy (rules_for p.order) rules before now (λ rs. Carries (Gives p.order) (release_duty p rs) before.port now.port before.turns now.turns)

-- how a command goes on under a good policy: by its other file, or at once
abbrev pub GoesOn : Command → Assignment → Outside → Outside → Status → Type 0
GoesOn (Command.resume policy from) p before now status = Accepts (states_under p) from before now (λ pool. ¬ IsEarly status) status
GoesOn (Command.release policy rules) p before now status = Accepts (rules_for p.order) rules before now (λ rs. ¬ IsEarly status) status
GoesOn other p before now status = ¬ IsEarly status

-- Nothing failed: no fetch of a file that the command is by, no read and no write.
pub record NothingFailed (command : Command) (before now : Outside) : Type 0 where
  pub fetches : ¬ IsUnfetched (policy_of command) before.shelf now.shelf
  pub more_fetches : (name : List ℕ) → IsFileOf command name → ¬ IsUnfetched name before.shelf now.shelf
  pub reads : ¬ Rose before.port.read_faults now.port.read_faults
  pub writes : ¬ Rose before.port.write_faults now.port.write_faults

-- What a command comes to, by what the outside tells before and after it, and its status.
pub record ComesTo (command : Command) (before now : Outside) (status : Status) : Type 0 where
  -- under its policy it does what it is for
  pub obeys : EndsBy policies (policy_of command) before now (λ p ends. IsAssignment p × Performs command p before now ends) status
  -- a bad policy is what it ends with, and a good one is accepted
  pub accepts : Accepts policies (policy_of command) before now (λ p. GoesOn command p before now status) status
  -- where a fetch failed, the status says so, and where nothing failed, it is no fault of the
  -- outside
  pub fetched : FetchedOrFailed before.shelf now.shelf status
  pub complete : NothingFailed command before now → IsUnfailing status

-- a front of the line was put on a sink, and all of it where no write failed
abbrev pub Reports : SinkTold → SinkTold → List ℕ → Type 0
Reports before now line = Reported before.put now.put before.faults now.faults line
