-- What a level's copy has put begins the plain run on what the level sees of the inputs in force.
use Rattle.std.proofs.Common.{◌≡◌, ℕ, ◌+◌, ◌<◌, Bool, true, false, cond, ◌==◌, Option, Some, None, List, [], ◌∷◌, ◌++◌, All, refl, sym, ap, subst, ◌∙◌, append_assoc, append-nil, arith}
use Rattle.std.specs.List.{cons_option}
use Rattle.std.proofs.lemmas.List.Elements.{All-nil, All-head, All-tail, filter-append}
use Rattle.ff_confinement.specs.Copies.{at_level, seen}
use Rattle.ff_confinement.specs.Runs.{joined, plain}
use Rattle.ff_confinement.specs.Text.{text_of}
use Rattle.ff_contract.specs.Lists.{Begins}
use Rattle.ff_confinement.specs.Worlds.{Copy, copy_at, finish, has_work, leader, offer, step_copy}
use Rattle.ff_confinement.proofs.Below.{get_or-each}
use Rattle.ff_confinement.proofs.Finishing.{finish_begins, finish_ok, finish_rest, finish_step}
use Rattle.ff_confinement.proofs.Schedules.{end_of, finish_new_end, finish_offered_end}
use Rattle.ff_confinement.proofs.Text.{text_of_begins}
use Rattle.ff_confinement.proofs.Worlds.{copy-arrive, copy-drain, copy-new, copy-turn}
use Rattle.ff_lattice.specs.Order.{size}
use Rattle.ff_machine.specs.Machine.{reactor}
use Rattle.ff_machine.specs.State.{State}
use Rattle.ff_policy.specs.Assignment.{Assignment}
use Rattle.ff_pool.proofs.Gathering.{ends}
use Rattle.ff_route.specs.Route.{offers, sees}
use Rattle.ff_value.specs.Same.{same_input}
use Rattle.ff_value.specs.declared.input.Input.{Input}
use Rattle.ff_value.specs.declared.output.Out.{Out}
use Rattle.ff_session.specs.Levels as session
use Rattle.ff_travel.specs.Commands.{IsCommandOf}
use Rattle.ff_travel.specs.declared.command.Command.{Command}
use Rattle.ff_travel.specs.declared.command.Command.TheVariants.{Arrive, Turn, Drain, Back, Show}
use Rattle.ff_travel.specs.Force.{Copies, arrivals, first_world, in_force, stepped, world_after, world_from}
use Rattle.ff_travel.specs.Shown.{lines_put, plain_put}
use Rattle.ff_travel.proofs.Worlds.{AreCopies, all_from, first_copies, stepped_copies}

-- what a level sees of one input more
seen_push : (p : Assignment) (l : ℕ) (is : List Input) (i : Input) → seen (session.levels p) l (is ++ i ∷ []) ≡ seen (session.levels p) l is ++ cons_option (sees p l i) []
seen_push p l [] i = refl
seen_push p l (j ∷ is) i = ap (cons_option (sees p l j)) (seen_push p l is i) ∙ onto (sees p l j) (seen (session.levels p) l is)
  where
    onto : (o : Option Input) (xs : List Input) → cons_option o (xs ++ cons_option (sees p l i) []) ≡ cons_option o xs ++ cons_option (sees p l i) []
    onto None xs = refl
    onto (Some x) xs = refl

-- each level's copy comes to the end of the plain run on what the level sees of these inputs
pub record HasCome (p : Assignment) (w : Copies) (is : List Input) : Type 0 where
  pub copies : AreCopies p w
  pub come : (l : ℕ) → l < size p.order → finish (reactor p.fuel) (p.fuel + 1) (copy_at (reactor p.fuel) w l) ≡ end_of (reactor p.fuel) (p.fuel + 1) (seen (session.levels p) l is)

module _ (p : Assignment) where
  come_first : HasCome p (first_world p) []
  come_first = record {
    copies = first_copies p;
    come = λ l lt. ap (finish (reactor p.fuel) (p.fuel + 1)) (copy-new (reactor p.fuel) (size p.order) l lt) ∙ finish_new_end (reactor p.fuel) (p.fuel + 1) (ends p.fuel).start_quiet;
  }

  -- a step of a copy, or none, leaves what it comes to
  still : (b : Bool) (c : Copy Input Out State) → finish (reactor p.fuel) (p.fuel + 1) (step_copy (reactor p.fuel) c) ≡ finish (reactor p.fuel) (p.fuel + 1) c
      → finish (reactor p.fuel) (p.fuel + 1) (cond b (step_copy (reactor p.fuel) c) c) ≡ finish (reactor p.fuel) (p.fuel + 1) c
  still true c same = same
  still false c same = refl

  come_step : (w : Copies) (is : List Input) (command : Command) → IsCommandOf p.order command → HasCome p w is → HasCome p (stepped p w command) (is ++ arrivals (command ∷ []))
  come_step w is (Arrive i) of_it at = record {
    copies = stepped_copies p w (Arrive i) of_it at.copies;
    come = λ l lt. let count = at.copies.count in
        ap (finish (reactor p.fuel) (p.fuel + 1)) (copy-arrive (reactor p.fuel) same_input w (offers p i) l (omega arith))
        ∙ finish_offered_end (reactor p.fuel) (p.fuel + 1) (copy_at (reactor p.fuel) w l) (seen (session.levels p) l is) (offer (offers p i) l) (at.come l lt)
        ∙ ap (λ o. end_of (reactor p.fuel) (p.fuel + 1) (seen (session.levels p) l is ++ cons_option o [])) (get_or-each (λ k. sees p k i) (size p.order) l None lt)
        ∙ ap (end_of (reactor p.fuel) (p.fuel + 1)) (sym (seen_push p l is i));
  }
  come_step w is (Turn level) of_it at = subst (HasCome p (stepped p w (Turn level))) (sym (append-nil is)) (record {
    copies = stepped_copies p w (Turn level) of_it at.copies;
    come = λ l lt. let count = at.copies.count in
        ap (finish (reactor p.fuel) (p.fuel + 1)) (copy-turn (reactor p.fuel) w level.0 l (omega arith))
        ∙ still (leader w.leaders l == leader w.leaders level.0) (copy_at (reactor p.fuel) w l)
        (finish_step (reactor p.fuel) (p.fuel + 1) (copy_at (reactor p.fuel) w l) (at.copies.world.ok l (omega arith)).ends)
        ∙ at.come l lt;
  })
  come_step w is Drain of_it at = subst (HasCome p (stepped p w Drain)) (sym (append-nil is)) (record {
    copies = stepped_copies p w Drain of_it at.copies;
    come = λ l lt. let count = at.copies.count in
        ap (finish (reactor p.fuel) (p.fuel + 1)) (copy-drain (reactor p.fuel) (p.fuel + 1) w l (omega arith))
        ∙ finish_rest (reactor p.fuel) (p.fuel + 1) (finish (reactor p.fuel) (p.fuel + 1) (copy_at (reactor p.fuel) w l))
        (finish_ok (ends p.fuel) (copy_at (reactor p.fuel) w l) (at.copies.world.ok l (omega arith))).1
        ∙ at.come l lt;
  })
  come_step w is Back of_it at = subst (HasCome p w) (sym (append-nil is)) at
  come_step w is (Show level) of_it at = subst (HasCome p w) (sym (append-nil is)) at

  arrivals_more : (command : Command) (force : List Command) → arrivals (command ∷ force) ≡ arrivals (command ∷ []) ++ arrivals force
  arrivals_more (Arrive i) force = refl
  arrivals_more (Turn level) force = refl
  arrivals_more Drain force = refl
  arrivals_more Back force = refl
  arrivals_more (Show level) force = refl

  come_from : (w : Copies) (is : List Input) (force : List Command) → All (IsCommandOf p.order) force → HasCome p w is → HasCome p (world_from p w force) (is ++ arrivals force)
  come_from w is [] all at = subst (HasCome p w) (sym (append-nil is)) at
  come_from w is (c ∷ force) all at =
      subst (HasCome p (world_from p (stepped p w c) force)) (append_assoc is (arrivals (c ∷ [])) (arrivals force) ∙ ap (λ js. is ++ js) (sym (arrivals_more c force)))
      (come_from (stepped p w c) (is ++ arrivals (c ∷ [])) force (All-tail (IsCommandOf p.order) c force all)
      (come_step w is c (All-head (IsCommandOf p.order) c force all) at))

  come_after : (commands : List Command) → All (IsCommandOf p.order) commands → HasCome p (world_after p commands) (arrivals (in_force commands))
  unfolding world_after
  come_after commands all =
      come_from (first_world p) [] (in_force commands) (all_from (IsCommandOf p.order) [] commands (All-nil (IsCommandOf p.order)) all) come_first

  -- the outputs at a level of a longer list begin with those of a shorter one
  part_begins : (l : ℕ) (whole part : List Out) → Begins whole part → Begins (at_level (session.levels p) l whole) (at_level (session.levels p) l part)
  part_begins l whole part begins = (at_level (session.levels p) l begins.0, ap (at_level (session.levels p) l) begins.1 ∙ filter-append (λ o. (session.levels p).level_out o == l) part begins.0)

  module _ (commands : List Command) (l : ℕ) (all : All (IsCommandOf p.order) commands) (lt : l < size p.order) where
    pub shown_begins : Begins (plain_put p l (arrivals (in_force commands))) (lines_put p (world_after p commands) l)
    shown_begins =
        text_of_begins (session.levels p) (at_level (session.levels p) l (joined (plain (session.machine p) (seen (session.levels p) l (arrivals (in_force commands))))))
        (at_level (session.levels p) l (copy_at (reactor p.fuel) (world_after p commands) l).outputs)
        (part_begins l (joined (plain (session.machine p) (seen (session.levels p) l (arrivals (in_force commands))))) (copy_at (reactor p.fuel) (world_after p commands) l).outputs
        (subst (λ c. Begins c.outputs (copy_at (reactor p.fuel) (world_after p commands) l).outputs) ((come_after commands all).come l lt)
        (finish_begins (reactor p.fuel) (p.fuel + 1) (copy_at (reactor p.fuel) (world_after p commands) l))))

    pub shown_all : has_work (reactor p.fuel) (copy_at (reactor p.fuel) (world_after p commands) l) ≡ false → lines_put p (world_after p commands) l ≡ plain_put p l (arrivals (in_force commands))
    shown_all rests =
        ap (λ c. text_of (session.levels p) (at_level (session.levels p) l c.outputs))
        (sym (finish_rest (reactor p.fuel) (p.fuel + 1) (copy_at (reactor p.fuel) (world_after p commands) l) rests) ∙ (come_after commands all).come l lt)
