-- What is claimed of a run under the policy of a name.
use Rattle.std.specs.Prelude.{ℕ, List, String}
use Rattle.std.proofs.Common.{Global}
use Rattle.ff_confinement.specs.Laws.{IsProjection, IsSecure, IsPrecise}
use Rattle.ff_io.specs.Port.{Told}
use Rattle.ff_io.specs.Shelf.{ShelfTold}
use Rattle.ff_policy.specs.Assignment.{Assignment}
use Rattle.ff_status.specs.declared.status.Status.{Status}
use Rattle.ff_value.specs.declared.input.Input.{Input}
use Rattle.ff_session.specs.Claims.{Claims, IsAnswered}
use Rattle.ff_session.specs.Levels.{levels, machine}
use Rattle.ff_trace.specs.Lines.{IsInputOf}
use Rattle.ff_run.specs.Policies.{Under}
use Rattle.ff_run.specs.Words.{Asks, Command}

-- under the policy of this name, this claim holds of the inputs that the bytes got give a
-- multi-executed run, and of the bytes put
abbrev pub ClaimsUnder : ShelfTold → List ℕ → Told → Told → (Assignment → List Input → List ℕ → Type 0) → Type 0
ClaimsUnder shelf name before now claim = Under shelf name (λ p. Claims p before now (claim p))

-- where the words ask for a multi-executed run and it was answered, this claim holds under its
-- policy
abbrev pub OnMulti : List (String Global) → Status → ShelfTold → Told → Told → (Assignment → List Input → List ℕ → Type 0) → Type 0
OnMulti words status shelf before now claim = (policy : List ℕ) (slice : ℕ) → Asks words (Command.multi policy slice) → IsAnswered status → ClaimsUnder shelf policy before now claim

-- The headline of a multi-executed run of these inputs that put this text: each level's lines, the
-- view of each level, and where precision holds.
pub record IsConfined (p : Assignment) (is : List Input) (put : List ℕ) : Type 0 where
  pub projected : IsProjection (machine p) (levels p) is put
  pub secure : IsSecure (machine p) (levels p) (IsInputOf p.order) is put
  pub precise : IsPrecise (machine p) (levels p) is put
