-- New leaders get a fork of the browser of their class, level by level.
use Rattle.std.proofs.Common.{◌≡◌, ◌≢◌, ℕ, ◌+◌, ◌<◌, ◌≤◌, List, length, get_or, set, sym, ap, ◌∙◌, arith, ◌⊎◌, inl, inr, length-set, get_or-set_same, get_or-set_other}
use Rattle.std.proofs.lemmas.Bool.{cases_lt}
use Rattle.std.proofs.lemmas.List.{get_or_default}
use Rattle.ff_confinement.specs.Worlds.{leader, AreLeaders}
use Rattle.ff_pool.specs.Heads.{Head, new_head}

-- the levels below l that lead now have the heads of those that led them, and old leaders theirs
pub record IsForking (first : List Head) (old new : List ℕ) (heads : List Head) (l : ℕ) : Type 0 where
  pub count : length heads ≡ length first
  pub done : (j : ℕ) (d : Head) → j < l → leader new j ≡ j → get_or heads j d ≡ get_or first (leader old j) d
  pub stays : (j : ℕ) (d : Head) → leader old j ≡ j → get_or heads j d ≡ get_or first j d

module _ {first : List Head} {old new : List ℕ} where
  -- a level that doesn't lead now
  pub forking_skip : (heads : List Head) (l : ℕ) → IsForking first old new heads l → leader new l ≢ l → IsForking first old new heads (l + 1)
  forking_skip heads l at not_leads = record {
    count = at.count;
    done = λ j d less leads. from j d less leads (cases_lt j l);
    stays = at.stays;
  }
    where
      from : (j : ℕ) (d : Head) → j < l + 1 → leader new j ≡ j → (j < l) ⊎ (l ≤ j) → get_or heads j d ≡ get_or first (leader old j) d
      from j d less leads (inl below_l) = at.done j d below_l leads
      from j d less leads (inr at_l) = let e : l ≡ j = omega arith in absurd (not_leads (ap (leader new) e ∙ leads ∙ sym e))

  -- one that led before
  pub forking_stay : (heads : List Head) (l : ℕ) → IsForking first old new heads l → leader old l ≡ l → IsForking first old new heads (l + 1)
  forking_stay heads l at led = record {
    count = at.count;
    done = λ j d less leads. from j d less leads (cases_lt j l);
    stays = at.stays;
  }
    where
      from : (j : ℕ) (d : Head) → j < l + 1 → leader new j ≡ j → (j < l) ⊎ (l ≤ j) → get_or heads j d ≡ get_or first (leader old j) d
      from j d less leads (inl below_l) = at.done j d below_l leads
      from j d less leads (inr at_l) =
          let e : l ≡ j = omega arith in
          let leads_old : leader old j ≡ j = sym (ap (leader old) e) ∙ led ∙ e in
          at.stays j d leads_old ∙ ap (λ i. get_or first i d) (sym leads_old)

  -- one that leads from now on
  pub forking_fork : (heads : List Head) (l : ℕ) → IsForking first old new heads l → leader old l ≢ l → l < length heads → AreLeaders old → l < length old
      → (heads' : List Head) (h : Head) → heads' ≡ set heads l h → ((d : Head) → h ≡ get_or heads (leader old l) d) → IsForking first old new heads' (l + 1)
  forking_fork heads l at not_led lt led in_old heads' h written is = record {
    count = ap length written ∙ length-set heads l h ∙ at.count;
    done = λ j d less leads. from j d less leads (cases_lt j l);
    stays = λ j d leads_old. other j d (λ e. not_led (ap (leader old) (sym e) ∙ leads_old ∙ e)) ∙ at.stays j d leads_old;
  }
    where
      other : (j : ℕ) (d : Head) → j ≢ l → get_or heads' j d ≡ get_or heads j d
      other j d differ = ap (λ hs. get_or hs j d) written ∙ get_or-set_other heads l j h d differ

      here : (d : Head) → get_or heads' l d ≡ get_or first (leader old l) d
      here d = ap (λ hs. get_or hs l d) written ∙ get_or-set_same heads l h d lt ∙ is d ∙ at.stays (leader old l) d (led.itself l in_old)

      from : (j : ℕ) (d : Head) → j < l + 1 → leader new j ≡ j → (j < l) ⊎ (l ≤ j) → get_or heads' j d ≡ get_or first (leader old j) d
      from j d less leads (inl below_l) = other j d (λ e. omega arith) ∙ at.done j d below_l leads
      from j d less leads (inr at_l) = let e : l ≡ j = omega arith in sym (ap (λ i. get_or heads' i d) e) ∙ here d ∙ ap (λ i. get_or first (leader old i) d) e

  -- the same, as one level's fork is said
  pub forking_forked : (heads : List Head) (l : ℕ) → IsForking first old new heads l → leader old l ≢ l → l < length heads → AreLeaders old → l < length old
      → (heads' : List Head) → ((d : Head) → heads' ≡ set heads l (get_or heads (leader old l) d)) → IsForking first old new heads' (l + 1)
  forking_forked heads l at not_led lt led in_old heads' written =
      let less = led.before l in_old in
      forking_fork heads l at not_led lt led in_old heads' (get_or heads (leader old l) (new_head 0)) (written (new_head 0))
      (λ d. get_or_default heads (leader old l) (new_head 0) d (omega arith))
