-- Histories of commands in force, and what one command more makes of them.
use Rattle.std.proofs.Common.{◌≡◌, List, [], ◌∷◌, ◌++◌, refl, sym, ap, ap₂, ◌∙◌}
use Rattle.ff_policy.specs.Assignment.{Assignment}
use Rattle.ff_travel.specs.declared.command.Command.{Command}
use Rattle.ff_travel.specs.declared.command.Command.TheVariants.{Arrive, Turn, Drain, Back, Show}
use Rattle.ff_travel.specs.Force.{Copies, without_last, last_or, force_after, force_from, in_force, stepped, step_turns, first_world, world_from, replay, world_after}
use Rattle.ff_travel.specs.Shown.{text_at, travel_entry, travel_turns}
use Rattle.ff_travel.specs.Travelled.{History, Travelled, applied, happened, history_after, new_travel, worlds_before, IsTravelAt}

-- ---- lists

pub without_last_push : {X : Type 0} (xs : List X) (x : X) → without_last (xs ++ x ∷ []) ≡ xs
without_last_push [] x = refl
without_last_push (y ∷ []) x = refl
without_last_push (y ∷ z ∷ ys) x = ap (λ ws. y ∷ ws) (without_last_push (z ∷ ys) x)

pub last_or_push : {X : Type 0} (d : X) (xs : List X) (x : X) → last_or d (xs ++ x ∷ []) ≡ x
last_or_push d [] x = refl
last_or_push d (y ∷ ys) x = last_or_push y ys x

-- ---- commands in force

force_from_push : (force commands : List Command) (command : Command) → force_from force (commands ++ command ∷ []) ≡ force_after (force_from force commands) command
force_from_push force [] command = refl
force_from_push force (c ∷ commands) command = force_from_push (force_after force c) commands command

-- one command more
pub in_force_push : (commands : List Command) (command : Command) → in_force (commands ++ command ∷ []) ≡ force_after (in_force commands) command
in_force_push commands command = force_from_push [] commands command

-- ---- the copies that they give

module _ (p : Assignment) where
  pub world_from_push : (w : Copies) (force : List Command) (command : Command) → world_from p w (force ++ command ∷ []) ≡ stepped p (world_from p w force) command
  world_from_push w [] command = refl
  world_from_push w (c ∷ force) command = world_from_push (stepped p w c) force command

  worlds_before_push : (w : Copies) (force : List Command) (command : Command) → worlds_before p w (force ++ command ∷ []) ≡ worlds_before p w force ++ world_from p w force ∷ []
  worlds_before_push w [] command = refl
  worlds_before_push w (c ∷ force) command = ap (λ ws. w ∷ ws) (worlds_before_push (stepped p w c) force command)

  -- the last one taken back
  worlds_without : (w : Copies) (force : List Command) → without_last (worlds_before p w force) ≡ worlds_before p w (without_last force)
  worlds_without w [] = refl
  worlds_without w (c ∷ []) = refl
  worlds_without w (c ∷ d ∷ force) = ap (λ ws. w ∷ ws) (worlds_without (stepped p w c) (d ∷ force))

  world_without : (w : Copies) (force : List Command) → last_or (world_from p w force) (worlds_before p w force) ≡ world_from p w (without_last force)
  world_without w [] = refl
  world_without w (c ∷ []) = refl
  world_without w (c ∷ d ∷ force) = world_without (stepped p w c) (d ∷ force)

  -- where a command moves the copies
  moves : (force : List Command) (command : Command) → History
  moves force command = record { before = worlds_before p (first_world p) force ++ replay p force ∷ []; world = stepped p (replay p force) command }

  abbrev history : List Copies → Copies → History
  history before world = record { before = before; world = world }

  moved_is : (force : List Command) (command : Command) → moves force command ≡ history_after p (force ++ command ∷ [])
  unfolding moves
  moved_is force command = ap₂ history (sym (worlds_before_push (first_world p) force command)) (sym (world_from_push (first_world p) force command))

  -- what a command makes of the history of those in force
  pub happened_is : (force : List Command) (command : Command) → happened p (history_after p force) command ≡ history_after p (force_after force command)
  unfolding moves
  happened_is force (Arrive input) = moved_is force (Arrive input)
  happened_is force (Turn level) = moved_is force (Turn level)
  happened_is force Drain = moved_is force Drain
  happened_is force Back = ap₂ history (worlds_without (first_world p) force) (world_without (first_world p) force)
  happened_is force (Show level) = refl

-- ---- a travel on its way

-- a new one
pub fresh_travel : (p : Assignment) (t : Travelled) → t ≡ new_travel p → IsTravelAt p t []
fresh_travel p t fresh = record {
  policy = ap (λ s. s.policy) fresh;
  unspent = ap (λ s. s.spent) fresh;
  history = ap (λ s. s.history) fresh;
}

module _ (p : Assignment) (t : Travelled) (commands : List Command) (at : IsTravelAt p t commands) where
  -- its copies are those of a fresh replay
  pub world_is : t.history.world ≡ world_after p commands
  unfolding world_after
  world_is = ap (λ h. h.world) at.history

  -- one command more
  pub travelled_on : (command : Command) (next : Travelled) → next ≡ applied t command → IsTravelAt p next (commands ++ command ∷ [])
  travelled_on command next made = record {
    policy = ap (λ s. s.policy) made ∙ at.policy;
    unspent = ap (λ s. s.spent) made ∙ at.unspent;
    history =
        ap (λ s. s.history) made
        ∙ ap₂ (λ q h. happened q h command) at.policy at.history
        ∙ happened_is p (in_force commands) command
        ∙ sym (ap (history_after p) (in_force_push commands command));
  }

  -- what it shows, and its turns
  pub text_is : (command : Command) → text_at t.policy t.history.world command ≡ travel_entry p commands command
  text_is command = ap₂ (λ q w. text_at q w command) at.policy world_is

  pub turns_are : (command : Command) → step_turns t.policy t.history.world command ≡ travel_turns p commands command
  turns_are command = ap₂ (λ q w. step_turns q w command) at.policy world_is
