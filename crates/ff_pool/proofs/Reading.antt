-- What is read of a pool's parts is what is seen of the pool.
use Rattle.std.proofs.Common.{◌≡◌, ℕ, ◌<◌, Bool, false, Option, List, length, All, set, sym, ap, ap₂, subst, ◌∙◌}
use Rattle.ff_value.specs.Spelled.{IsWellSpelledInput}
use Rattle.ff_value.specs.declared.input.Input.{Input}
use Rattle.ff_value.specs.declared.output.Out.{Out}
use Rattle.ff_confinement.specs.Worlds.{leader, split}
use Rattle.ff_value.specs.Same.{same_input}
use Rattle.ff_pool.specs.Heads.{Head, HasArrived, new_head, head_at, step_of, step_head, head_turns, head_works, led_head, given, IsKept}
use Rattle.ff_pool.specs.Pooled.{Pooled, seen, size, copy_of, has_work, step_turns, arrived, turned, AreOffersTo}
use Rattle.ff_pool.proofs.Gathering.{head_default, spelled_at, work_at, turns_at, state_at, gathered-turn, kept-turn, gathered-arrive, kept-arrive}

-- what is known where a call has opened a pool that isn't spent
module _ {fuel : ℕ} {spent : Bool} {heads : List Head} {puts : List (List Out)} {leaders : List ℕ} {p : Pooled} (invariant : spent ≡ false → IsKept fuel heads puts leaders) (unspent : spent ≡ false) (view : seen fuel spent heads puts leaders ≡ p) where
  kept : IsKept fuel heads puts leaders
  kept = invariant unspent

  -- the pool isn't spent
  pub seen_unspent : p.spent ≡ false
  seen_unspent = ap (λ q. q.spent) (sym view) ∙ unspent

  plain_view : seen fuel false heads puts leaders ≡ p
  plain_view = ap (λ b. seen fuel b heads puts leaders) (sym unspent) ∙ view

  -- a level of the pool is one of its parts
  pub level_in : (l : ℕ) → (p.spent ≡ false → l < size p) → l < length leaders
  level_in l within = subst (λ q. l < size q) (sym view) (within seen_unspent)

  module _ {k l : ℕ} (within : p.spent ≡ false → l < size p) (at : k ≡ l) where
    level : l < length leaders
    level = level_in l within

    -- what is read of the leader's head
    pub read_head : {X : Type 0} (f : Head → X) (d : Head) → f (led_head heads leaders k d) ≡ f (head_at fuel heads (leader leaders l))
    read_head f d = ap (λ j. f (led_head heads leaders j d)) at ∙ ap f (head_default kept l level d)

    pub read_spelled : (d : Head) → All IsWellSpelledInput (led_head heads leaders k d).inbox
    read_spelled d = subst (λ is. All IsWellSpelledInput is) (sym (read_head (λ h. h.inbox) d)) (spelled_at kept l level (new_head fuel))

    pub read_work : (d : Head) → head_works (led_head heads leaders k d) ≡ has_work p l
    read_work d = read_head head_works d ∙ work_at kept l level ∙ ap (λ q. has_work q l) view

    pub read_turns : (d : Head) → head_turns (led_head heads leaders k d) ≡ step_turns p l
    read_turns d = read_head head_turns d ∙ turns_at kept l level ∙ ap (λ q. step_turns q l) view

    pub read_state : (d : Head) → (led_head heads leaders k d).state ≡ (copy_of p l).state
    read_state d = read_head (λ h. h.state) d ∙ state_at kept l level ∙ ap (λ q. (copy_of q l).state) view

    module _ {heads' : List Head} {puts' : List (List Out)} {leaders' : List ℕ} (same : leaders' ≡ leaders) (done : (d : Head) → heads' ≡ set heads (leader leaders k) (step_head (led_head heads leaders k d)))
        (put : (d : Head) → puts' ≡ given puts leaders (leader leaders k) (step_of (led_head heads leaders k d)).outputs) where
      heads_step : heads' ≡ set heads (leader leaders l) (step_head (head_at fuel heads (leader leaders l)))
      heads_step =
          done (new_head fuel)
          ∙ ap (λ h. set heads (leader leaders k) h) (read_head step_head (new_head fuel))
          ∙ ap (λ j. set heads (leader leaders j) (step_head (head_at fuel heads (leader leaders l)))) at

      puts_step : puts' ≡ given puts leaders (leader leaders l) (step_of (head_at fuel heads (leader leaders l))).outputs
      puts_step =
          put (new_head fuel)
          ∙ ap (λ os. given puts leaders (leader leaders k) os) (read_head (λ h. (step_of h).outputs) (new_head fuel))
          ∙ ap (λ j. given puts leaders (leader leaders j) (step_of (head_at fuel heads (leader leaders l))).outputs) at

      pub turn_kept : IsKept fuel heads' puts' leaders'
      turn_kept = subst (IsKept fuel heads' puts') (sym same) (kept-turn kept heads' puts' l level heads_step puts_step)

      pub turn_seen : seen fuel false heads' puts' leaders' ≡ turned p l
      turn_seen =
          ap (seen fuel false heads' puts') same
          ∙ ap (λ w. record { fuel = fuel; spent = false; world = w }) (gathered-turn kept heads' puts' l level heads_step puts_step)
          ∙ ap (λ q. turned q l) plain_view

  module _ (heads' : List Head) {puts' : List (List Out)} {leaders' : List ℕ} (offers : List (Option Input)) (same : puts' ≡ puts) (parted : leaders' ≡ split same_input leaders offers)
      (long : length heads' ≡ length heads) (done : (d : Head) → HasArrived leaders offers heads heads' d) where
    pub arrive_kept : (p.spent ≡ false → AreOffersTo p offers) → IsKept fuel heads' puts' leaders'
    arrive_kept good =
        subst (λ os. IsKept fuel heads' os leaders') (sym same)
        (subst (IsKept fuel heads' puts) (sym parted)
        (kept-arrive kept heads' offers long (subst (λ q. AreOffersTo q offers) (sym view) (good seen_unspent)) (done (new_head fuel))))

    pub arrive_seen : seen fuel false heads' puts' leaders' ≡ arrived p offers
    arrive_seen =
        ap₂ (seen fuel false heads') same parted
        ∙ ap (λ w. record { fuel = fuel; spent = false; world = w }) (gathered-arrive kept heads' offers (done (new_head fuel)))
        ∙ ap (λ q. arrived q offers) plain_view
