-- What the texts of the commands tell, under the policy of a name.
use Rattle.std.specs.Prelude.{◌≡◌, ◌⊎◌, ⊤, ℕ, List, String}
use Rattle.std.proofs.Common.{Global}
use Rattle.ff_io.specs.Port.{Told}
use Rattle.ff_io.specs.Shelf.{ShelfTold}
use Rattle.ff_policy.specs.Assignment.{Assignment}
use Rattle.ff_pool.specs.Pooled.{Pooled}
use Rattle.ff_route.specs.declared.rule.Rule.{Rule}
use Rattle.ff_session.specs.Claims.{Claims, IsAnswered}
use Rattle.ff_session.specs.Cut.{AreFronts, IsCutShort}
use Rattle.ff_status.specs.declared.status.Status.{Status}
use Rattle.ff_audit.specs.Audited.{IsAudit}
use Rattle.ff_release.specs.Releasing.{IsReleased}
use Rattle.ff_resume.specs.Resumed.{IsResumed, stand_of}
use Rattle.ff_travel.specs.Told as travelled
use Rattle.ff_run.specs.Claims.{ClaimsUnder, IsConfined}
use Rattle.ff_run.specs.Names.{GivenFor, Kind, StandsFor}
use Rattle.ff_run.specs.Policies.{Under, UnderGiven}
use Rattle.ff_run.specs.Rules.{rules_for}
use Rattle.ff_run.specs.States.{states_under}
use Rattle.ff_run.specs.Words.{Asks, Command, IsByNoFile, policy_of}

-- Nothing passed, or under the policy of this name the whole lines that were put give each level a
-- front of its view.
abbrev pub CutUnder : ShelfTold → List ℕ → Told → Told → Type 0
CutUnder shelf name before now = (now ≡ before) ⊎ ClaimsUnder shelf name before now AreFronts

-- so of a multi-executed run that the words ask for, where a write failed or memory was refused
abbrev pub OnMultiCutShort : List (String Global) → Status → ShelfTold → Told → Told → Type 0
OnMultiCutShort words status shelf before now = (policy : List ℕ) (slice : ℕ) → Asks words (Command.multi policy slice) → IsCutShort status → CutUnder shelf policy before now

-- What a command under a policy tells, beside what it owes: a multi-executed run, the headline; an
-- audit, the leaks of the plain browser; `show` of a travel, a front of the plain run; and by what
-- its second name stands for, a resumed run, what the plain browser puts from where its copies
-- stood, and a released one, no more to a level than is offered at or below it.
abbrev pub Tells : ((X : Type 0) → Kind X → List ℕ → (X → Type 0) → Type 0) → Command → Assignment → Told → Told → Status → Type 0
Tells By (Command.multi policy slice) p before now status = Claims p before now (IsConfined p)
Tells By (Command.audit policy) p before now status = Claims p before now (λ is put. IsAudit p status is put)
Tells By (Command.travel policy) p before now status = travelled.Tells p before now
Tells By (Command.resume policy from) p before now status = By Pooled (states_under p) from (λ pool. Claims p before now (λ is put. IsResumed p (stand_of pool) is put))
Tells By (Command.release policy rules) p before now status = By (List Rule) (rules_for p.order) rules (λ rs. Claims p before now (λ is put. IsReleased p rs is put))
Tells By other p before now status = ⊤

-- so under the policy of its name, by the shelf's files
abbrev pub TellsUnder : Command → ShelfTold → Told → Told → Status → Type 0
TellsUnder command shelf before now status = Under shelf (policy_of command) (λ p. Tells (λ X kind. StandsFor kind shelf) command p before now status)

-- and so by what the shelf gave: first for the name of the policy, and then, where the command has
-- one, for its second name.
pub record TellsAsGiven (command : Command) (shelf shelf_now : ShelfTold) (before now : Told) (status : Status) : Type 0 where
  pub between : ShelfTold
  pub under : UnderGiven shelf between (policy_of command) (λ p. Tells (λ X kind. GivenFor kind between shelf_now) command p before now status)
  pub no_more : IsByNoFile command → shelf_now ≡ between

-- of the command that the words ask for, where it was answered
abbrev pub OnEach : List (String Global) → Status → ShelfTold → Told → Told → Type 0
OnEach words status shelf before now = (command : Command) → Asks words command → IsAnswered status → TellsUnder command shelf before now status

abbrev pub OnEachAsGiven : List (String Global) → Status → ShelfTold → ShelfTold → Told → Told → Type 0
OnEachAsGiven words status shelf shelf_now before now = (command : Command) → Asks words command → IsAnswered status → TellsAsGiven command shelf shelf_now before now status
