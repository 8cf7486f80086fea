-- The released run: each level's copy takes what the rules that are left offer to the level.
use Rattle.std.specs.Prelude.{◌≡◌, ℕ, ◌<◌, ◌≤◌, List, length, All}
use Rattle.ff_confinement.specs.Copies.{multi}
use Rattle.ff_confinement.specs.Text.{text_out}
use Rattle.ff_confinement.specs.Worlds.{offer}
use Rattle.ff_confinement.specs.Standings.{Offering, fresh}
use Rattle.ff_confinement.specs.Given.{IsSecureAsOffered}
use Rattle.ff_value.specs.declared.input.Input.{Input}
use Rattle.ff_policy.specs.Assignment.{Assignment}
use Rattle.ff_trace.specs.Lines.{IsInputOf}
use Rattle.ff_pool.specs.Pooled.{Pooled}
use Rattle.ff_session.specs.Levels.{levels, machine}
use Rattle.ff_route.specs.Offering.{IsRuleOf, left_of}
use Rattle.ff_route.specs.Released.{left_after, offers_after, uses}
use Rattle.ff_route.specs.declared.rule.Rule.{Rule}
use Rattle.ff_status.specs.declared.status.Status.TheVariants.{Done}
use Rattle.ff_session.specs.Works.{Duty}
use Rattle.ff_session.specs.Multi.{run_text, run_turns, copies_entry, copies_turns, AreCopiesAt}

-- what a level is offered of an input under rules, after the inputs before it
abbrev pub offered_by : Assignment → List Rule → Offering Input
offered_by p rules before l i = offer (offers_after p rules before i) l

-- the text for inputs, and their turns
abbrev pub release_text : Assignment → List Rule → List Input → List ℕ
release_text p rules is = run_text p (offered_by p rules) (fresh (machine p)) is

abbrev pub release_turns : Assignment → List Rule → List Input → ℕ
release_turns p rules is = run_turns p (offered_by p rules) (fresh (machine p)) is

-- the text for an input after the inputs before it, and its turns
abbrev pub release_entry : Assignment → List Rule → List Input → Input → List ℕ
release_entry p rules is i = copies_entry p (offered_by p rules) (fresh (machine p)) is i

abbrev pub entry_turns : Assignment → List Rule → List Input → Input → ℕ
entry_turns p rules is i = copies_turns p (offered_by p rules) (fresh (machine p)) is i

-- what a released run owes: each text in time, and no more at the end
abbrev pub release_duty : Assignment → List Rule → Duty Input
release_duty p rules = record { entry = release_entry p rules; text = λ whole is. release_text p rules is; turns = release_turns p rules; good = λ is. Done }

-- The copies stand where these inputs have brought them, and of the rules is left what these inputs
-- have left.
pub record IsReleasedAt (p : Assignment) (rules : List Rule) (pool : Pooled) (left : List Rule) (is : List Input) : Type 0 where
  pub fit : All (IsRuleOf p.order) rules
  pub copies : AreCopiesAt p (offered_by p rules) (fresh (machine p)) pool is
  pub left_is : left ≡ left_after p rules is

-- What a text tells that is that of the released run over these inputs: at each level what the
-- levels at or below it are offered, and no more; that each rule made the offers for at most as
-- many inputs as its quota; and what the multi-executed run tells, where none made any.
pub record IsReleased (p : Assignment) (rules : List Rule) (is : List Input) (text : List ℕ) : Type 0 where
  pub secure : IsSecureAsOffered (machine p) (levels p) (offered_by p rules) (fresh (machine p)) (IsInputOf p.order) is text
  pub within : (j : ℕ) → j < length rules → uses p rules j is ≤ left_of rules j
  pub unreleased : ((j : ℕ) → j < length rules → uses p rules j is ≡ 0) → text ≡ text_out (levels p) (multi (machine p) (levels p) is)
