-- The copies that commands give are well formed, and a turn of a level without work leaves them.
use Rattle.std.proofs.Common.{◌≡◌, ℕ, ◌+◌, ◌<◌, Bool, true, false, cond, not, ◌||◌, ◌==◌, List, [], ◌∷◌, ◌++◌, length, All, refl, sym, ap, ap₂, ◌∙◌, append-nil, arith}
use Rattle.std.proofs.lemmas.Bool.{eqb-true, true≢false}
use Rattle.std.proofs.lemmas.List.Elements.{All-nil, All-cons, All-head, All-tail, All-push}
use Rattle.ff_confinement.specs.Turns.{Reactor}
use Rattle.ff_confinement.specs.Worlds.{Copy, World, leader, levels, copy_at, step_copy, waits, works, has_work, world_turn, Ends, IsWorld}
use Rattle.ff_confinement.proofs.Below.{each_agree}
use Rattle.ff_confinement.proofs.Classes.{length-split}
use Rattle.ff_confinement.proofs.Worlds.{new_world_ok, arrive_ok, turn_ok, drain_ok, copies_are, states_same, inboxes_same, levels-new, leaders-arrive, leaders-turn, leaders-drain}
use Rattle.ff_lattice.specs.Order.{size}
use Rattle.ff_name.specs.declared.levels.Level.{Level}
use Rattle.ff_machine.specs.Machine.{reactor}
use Rattle.ff_value.specs.Same.{same_input}
use Rattle.ff_pool.specs.Heads.{IsWorldOf}
use Rattle.ff_pool.proofs.Parting.{same_input_decides}
use Rattle.ff_pool.proofs.Gathering.{ends}
use Rattle.ff_policy.specs.Assignment.{Assignment}
use Rattle.ff_route.specs.Route.{offers}
use Rattle.ff_travel.specs.Commands.{IsCommandOf}
use Rattle.ff_travel.specs.Force.{Copies, without_last, force_after, force_from, in_force, stepped, first_world, world_from, replay, world_after}
use Rattle.ff_travel.specs.declared.command.Command.{Command}
use Rattle.ff_travel.specs.declared.command.Command.TheVariants.{Arrive, Turn, Drain, Back, Show}
use Rattle.ff_travel.proofs.Force.{in_force_push, world_from_push}
use Rattle.ff_travel.proofs.Carrying.{offers_fit}

-- ---- a turn without work

module _ {I O S : Type 0} (r : Reactor I O S) where
  -- a copy without work stays as it is
  idle_copy : (c : Copy I O S) → has_work r c ≡ false → step_copy r c ≡ c
  idle_copy c rests = from (r.quiet c.state) c.inbox refl refl rests
    where
      from : (quiet : Bool) (inbox : List I) → r.quiet c.state ≡ quiet → c.inbox ≡ inbox → not quiet || waits r inbox ≡ false → step_copy r c ≡ c
      from true [] is none idle = rw (is, none) (ap (λ os. record { state = c.state; inbox = []; outputs = os }) (append-nil c.outputs))
      from true (i ∷ more) is some idle = absurd (true≢false idle)
      from false inbox is some idle = absurd (true≢false idle)

module _ {I O S : Type 0} {r : Reactor I O S} {most : ℕ} {InputOk : I → Type 0} {StateOk : S → Type 0} (law : Ends r most InputOk StateOk) where
  pub idle_turn : (w : World I O S) (l : ℕ) → IsWorld r most InputOk StateOk w → l < levels w → has_work r (copy_at r w l) ≡ false → world_turn r w l ≡ w
  unfolding world_turn
  idle_turn w l is lt rests =
      ap (λ cs. record { copies = cs; leaders = w.leaders })
      (each_agree (λ k. cond (leader w.leaders k == leader w.leaders l) (step_copy r (copy_at r w k)) (copy_at r w k)) (λ k. copy_at r w k) (levels w)
      (λ k in_k. from k in_k (leader w.leaders k == leader w.leaders l) refl)
      ∙ sym (copies_are r w is.count))
    where
      from : (k : ℕ) → k < levels w → (b : Bool) → (leader w.leaders k == leader w.leaders l) ≡ b → cond b (step_copy r (copy_at r w k)) (copy_at r w k) ≡ copy_at r w k
      from k in_k true same =
          let e = eqb-true (leader w.leaders k) (leader w.leaders l) same in
          idle_copy r (copy_at r w k) (ap₂ (λ s js. works r s js) (states_same law w is k l in_k lt e) (inboxes_same law w is k l in_k lt e) ∙ rests)
      from k in_k false same = refl

-- ---- well formed copies

-- the copies of a policy's levels
pub record AreCopies (p : Assignment) (w : Copies) : Type 0 where
  pub world : IsWorldOf p.fuel w
  pub count : levels w ≡ size p.order

pub first_copies : (p : Assignment) → AreCopies p (first_world p)
first_copies p = record { world = new_world_ok (ends p.fuel) (size p.order); count = levels-new (reactor p.fuel) (size p.order) }

pub stepped_copies : (p : Assignment) (w : Copies) (command : Command) → IsCommandOf p.order command → AreCopies p w → AreCopies p (stepped p w command)
stepped_copies p w (Arrive input) of_it at = record {
  world = arrive_ok (ends p.fuel) same_input same_input_decides w (offers p input) at.world (offers_fit p input (levels w) of_it at.count);
  count = ap length (leaders-arrive (reactor p.fuel) same_input w (offers p input)) ∙ length-split same_input same_input_decides w.leaders (offers p input) ∙ at.count;
}
stepped_copies p w (Turn level) of_it at = record { world = turn_ok (ends p.fuel) w level.0 at.world; count = ap length (leaders-turn (reactor p.fuel) w level.0) ∙ at.count }
stepped_copies p w Drain of_it at = record { world = drain_ok (ends p.fuel) w at.world; count = ap length (leaders-drain (reactor p.fuel) (p.fuel + 1) w) ∙ at.count }
stepped_copies p w Back of_it at = at
stepped_copies p w (Show level) of_it at = at

copies_from : (p : Assignment) (w : Copies) (force : List Command) → All (IsCommandOf p.order) force → AreCopies p w → AreCopies p (world_from p w force)
copies_from p w [] all at = at
copies_from p w (c ∷ force) all at =
    copies_from p (stepped p w c) force (All-tail (IsCommandOf p.order) c force all) (stepped_copies p w c (All-head (IsCommandOf p.order) c force all) at)

-- what holds of commands holds of those in force
module _ (P : Command → Type 0) where
  all_without : (force : List Command) → All P force → All P (without_last force)
  all_without [] all = All-nil P
  all_without (c ∷ []) all = All-nil P
  all_without (c ∷ d ∷ force) all = All-cons P c (without_last (d ∷ force)) (All-head P c (d ∷ force) all) (all_without (d ∷ force) (All-tail P c (d ∷ force) all))

  all_after : (force : List Command) (command : Command) → All P force → P command → All P (force_after force command)
  all_after force (Arrive input) all one = All-push P force (Arrive input) all one
  all_after force (Turn level) all one = All-push P force (Turn level) all one
  all_after force Drain all one = All-push P force Drain all one
  all_after force Back all one = all_without force all
  all_after force (Show level) all one = all

  pub all_from : (force commands : List Command) → All P force → All P commands → All P (force_from force commands)
  all_from force [] all more = all
  all_from force (c ∷ commands) all more = all_from (force_after force c) commands (all_after force c all (All-head P c commands more)) (All-tail P c commands more)

-- the copies after commands
pub copies_after : (p : Assignment) (commands : List Command) → All (IsCommandOf p.order) commands → AreCopies p (world_after p commands)
unfolding world_after
copies_after p commands all = copies_from p (first_world p) (in_force commands) (all_from (IsCommandOf p.order) [] commands (All-nil (IsCommandOf p.order)) all) (first_copies p)

turned_after : (p : Assignment) (commands : List Command) (l : Level) → world_after p (commands ++ Turn l ∷ []) ≡ stepped p (world_after p commands) (Turn l)
unfolding world_after
turned_after p commands l = ap (replay p) (in_force_push commands (Turn l)) ∙ world_from_push p (first_world p) (in_force commands) (Turn l)

-- a turn more of a level that has no work
pub idle_after : (p : Assignment) (commands : List Command) (l : Level) → All (IsCommandOf p.order) commands → l.0 < size p.order
    → has_work (reactor p.fuel) (copy_at (reactor p.fuel) (world_after p commands) l.0) ≡ false → world_after p (commands ++ Turn l ∷ []) ≡ world_after p commands
idle_after p commands l all lt rests =
    let at = copies_after p commands all in
    let count = at.count in
    turned_after p commands l ∙ idle_turn (ends p.fuel) (world_after p commands) l.0 at.world (omega arith) rests
