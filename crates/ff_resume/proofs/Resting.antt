-- A pool at rest stands where its copies stand, and after a run it rests again.
use Rattle.std.proofs.Common.{◌≡◌, ◌+◌, ℕ, Bool, true, false, not, ◌||◌, List, [], ◌∷◌, refl, sym, ap, subst, ◌∙◌, arith}
use Rattle.ff_lattice.specs.Order.{size}
use Rattle.ff_machine.specs.Machine.{reactor}
use Rattle.ff_machine.specs.State.{State}
use Rattle.ff_policy.specs.Assignment.{Assignment}
use Rattle.ff_pool.specs.Heads.{IsWorldOf}
use Rattle.ff_pool.specs.Pooled.{Pooled, copy_of}
use Rattle.ff_pool.specs.Restored.{IsResting}
use Rattle.ff_pool.proofs.Gathering.{ends}
use Rattle.ff_confinement.specs.Rested.{IsRested}
use Rattle.ff_confinement.specs.Standings.{Standing, StandAlike}
use Rattle.ff_confinement.specs.Worlds.{waits, copy_at}
use Rattle.ff_confinement.proofs.Resting.{rested_from}
use Rattle.ff_save.specs.Saved.{saved_recs, saved_text}
use Rattle.ff_session.specs.Levels.{levels}
use Rattle.ff_session.specs.Multi.{AreCopiesAt, seen_by, stands_after}
use Rattle.ff_value.specs.Same.{same_input}
use Rattle.ff_pool.proofs.Parting.{same_input_decides}
use Rattle.ff_value.specs.declared.input.Input.{Input}
use Rattle.ff_resume.specs.Resumed.{standing_text, stand_of}
use Rattle.ff_resume.proofs.Stood.{pool_stands, text_agrees}

-- a copy without work is quiet, and no input waits for it
module _ (f : ℕ) where
  quiet_of : (quiet : Bool) (inbox : List Input) → (not quiet || waits (reactor f) inbox) ≡ false → quiet ≡ true
  quiet_of true inbox none = refl
  quiet_of false inbox none = cc

  empty_of : (quiet : Bool) (inbox : List Input) → (not quiet || waits (reactor f) inbox) ≡ false → inbox ≡ []
  empty_of quiet [] none = refl
  empty_of true (i ∷ inbox) none = cc
  empty_of false (i ∷ inbox) none = cc

  no_work : (quiet : Bool) (inbox : List Input) → quiet ≡ true → inbox ≡ [] → (not quiet || waits (reactor f) inbox) ≡ false
  no_work true [] is none = refl
  no_work true (i ∷ inbox) is none = cc
  no_work false inbox is none = cc

module _ (p : Assignment) (pool : Pooled) where
  -- from where it stands
  pub stands_at : IsResting (size p.order) p.fuel pool → AreCopiesAt p (seen_by p) (stand_of pool) pool []
  stands_at is = record {
    pool_of = record { fuel = is.fuel_is; unspent = is.unspent; world = subst (λ f. IsWorldOf f pool.world) is.fuel_is is.valid };
    rested =
        subst (λ f. IsRested (reactor f) (f + 1) (levels p) (seen_by p) (stand_of pool) same_input pool.world []) is.fuel_is
        (rested_from (ends pool.fuel) (levels p) (seen_by p) (stand_of pool) same_input same_input_decides pool.world is.levels
        (λ l inside. no_work pool.fuel (copy_of pool l).state.quiet (copy_of pool l).inbox (is.quiet l (omega (arith, inside, is.levels))) (is.no_inputs l (omega (arith, inside, is.levels))))
        (λ l inside. refl) (λ k l in_k in_l. refl) (λ l inside. is.no_outputs l (omega (arith, inside, is.levels))));
  }

  module _ (from : Standing State) (is : List Input) (at : AreCopiesAt p (seen_by p) from pool is) where
    -- it rests
    pub rests_again : IsResting (size p.order) p.fuel pool
    rests_again = record {
      fuel_is = at.pool_of.fuel;
      unspent = at.pool_of.unspent;
      levels = at.rested.count;
      valid = subst (λ f. IsWorldOf f pool.world) (sym at.pool_of.fuel) at.pool_of.world;
      quiet = λ l inside. subst (λ f. (copy_at (reactor f) pool.world l).state.quiet ≡ true) (sym at.pool_of.fuel) (quiet_of p.fuel (copy_at (reactor p.fuel) pool.world l).state.quiet (copy_at (reactor p.fuel) pool.world l).inbox (at.rested.rests l (omega (arith, inside, at.rested.count))));
      no_inputs = λ l inside. subst (λ f. (copy_at (reactor f) pool.world l).inbox ≡ []) (sym at.pool_of.fuel) (empty_of p.fuel (copy_at (reactor p.fuel) pool.world l).state.quiet (copy_at (reactor p.fuel) pool.world l).inbox (at.rested.rests l (omega (arith, inside, at.rested.count))));
      no_outputs = λ l inside. subst (λ f. (copy_at (reactor f) pool.world l).outputs ≡ []) (sym at.pool_of.fuel) (at.rested.taken l (omega (arith, inside, at.rested.count)));
    }

    -- its copies stand where the inputs have brought them
    pub stands_there : StandAlike (size p.order) (stand_of pool) (stands_after p from is)
    stands_there = record {
      states = λ l inside. subst (λ f. (copy_at (reactor f) pool.world l).state ≡ (stands_after p from is).states l) (sym at.pool_of.fuel) (at.rested.states l (omega (arith, inside, at.rested.count)));
      classes = λ k l in_k in_l. at.rested.classes k l (omega (arith, in_k, at.rested.count)) (omega (arith, in_l, at.rested.count));
    }

    -- and so it is saved
    pub saved_there : saved_text p (saved_recs pool) ≡ standing_text p (stands_after p from is)
    saved_there = ap (saved_text p) (sym (pool_stands pool rests_again)) ∙ text_agrees p (stand_of pool) (stands_after p from is) stands_there
