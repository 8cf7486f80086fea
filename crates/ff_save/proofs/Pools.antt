-- Pools at rest with equal classes and browsers are equal.
use Rattle.std.proofs.Common.{◌≡◌, ℕ, ◌<◌, ◌≤◌, List, [], length, map, get_or, refl, sym, ap, ap₂, subst, ◌∙◌, arith}
use Rattle.std.specs.List.{HoldsAt}
use Rattle.std.proofs.lemmas.Bool.{eq-eqb, ne_eqb}
use Rattle.std.proofs.lemmas.List.{get_or-map, get_or_default, length-map, same_lists}
use Rattle.std.proofs.lemmas.List.Elements.{at_from_Contains}
use Rattle.ff_lattice.specs.LevelSet.{has, IsLeast}
use Rattle.ff_lattice.specs.declared.names.TheConstants.{MOST_LEVELS}
use Rattle.ff_machine.specs.Machine.{reactor}
use Rattle.ff_confinement.specs.Worlds.{leader, new_copy}
use Rattle.ff_pool.specs.Classes.{class_of, tops, classes_of, AreLed, IsLeastWith}
use Rattle.ff_pool.specs.Pooled.{Pooled, copy_of}
use Rattle.ff_pool.specs.Restored.{PoolRecs, pool_recs, IsResting}
use Rattle.ff_pool.proofs.Leaders.{tops_have, has_class, led_least}

-- the class of a level's leader has the level, and the leader is its least
module _ {n : ℕ} {classes : List (List ℕ)} {leaders : List ℕ} (most : n ≤ MOST_LEVELS) (are : AreLed n classes leaders) where
  few : length leaders ≤ MOST_LEVELS
  few = omega (arith, most, are.levels)

  pub least_is : (l : ℕ) → l < n → IsLeastWith classes l (leader leaders l)
  least_is l lt = record {
    place = there.0;
    within = omega (arith, there.1, ap length are.classes_are, length-map (tops leaders) (class_of leaders));
    held = ap (λ class. has class l) at ∙ has_class leaders top l few in_l ∙ eq-eqb (leader leaders l) (leader leaders top) (sym itself);
    first = subst (λ class. IsLeast class top) (sym at) (record {
      held = has_class leaders top top few top_in ∙ eq-eqb (leader leaders top) (leader leaders top) refl;
      first = λ m before.
          let up = are.led.before m (omega (arith, before, top_in)) in
          has_class leaders top m few (omega (arith, before, top_in)) ∙ ne_eqb (leader leaders m) (leader leaders top) (λ e. omega (arith, e, up, before, itself));
    });
  }
    where
      top : ℕ
      top = leader leaders l

      in_l : l < length leaders
      in_l = omega (arith, lt, are.levels)

      top_in : top < length leaders
      top_in = let less = are.led.before l in_l in omega (arith, less, in_l)

      itself : leader leaders top ≡ top
      itself = are.led.itself l in_l

      there : (k : ℕ) × (k < length (tops leaders)) × HoldsAt (λ y. y ≡ top) (tops leaders) k
      there = at_from_Contains (tops leaders) top (tops_have leaders (length leaders) top top_in itself)

      at : get_or classes there.0 [] ≡ class_of leaders top
      at =
          ap (λ cs. get_or cs there.0 []) (sym are.classes_are) ∙ get_or-map (class_of leaders) (tops leaders) there.0 0 [] there.1
          ∙ ap (class_of leaders) (there.2 0)

-- leaders are known by their classes
pub same_leaders : {n : ℕ} {classes : List (List ℕ)} {leaders others : List ℕ} → n ≤ MOST_LEVELS → AreLed n classes leaders → AreLed n classes others → leaders ≡ others
same_leaders {n} {classes} {leaders} {others} most are those =
    same_lists leaders others (are.levels ∙ sym those.levels)
    (λ k d less. get_or_default leaders k d 0 less
    ∙ led_least most those k (leader leaders k) (omega (arith, less, are.levels)) (least_is most are k (omega (arith, less, are.levels)))
    ∙ get_or_default others k 0 d (omega (arith, less, are.levels, those.levels)))

-- pools at rest with equal records are equal
module _ {n fuel : ℕ} {p q : Pooled} (most : n ≤ MOST_LEVELS) (is : IsResting n fuel p) (other : IsResting n fuel q) (same : pool_recs p ≡ pool_recs q) where
  led : p.world.leaders ≡ q.world.leaders
  led = same_leaders {n = n} {classes = classes_of q.world.leaders} most
      (record { led = is.valid.led; levels = is.levels; classes_are = ap (λ (r : PoolRecs). r.classes) same })
      (record { led = other.valid.led; levels = other.levels; classes_are = refl })

  -- browsers of the levels that lead
  browsers : map (λ l. (copy_of p l).state) (tops p.world.leaders) ≡ map (λ l. (copy_of q l).state) (tops p.world.leaders)
  browsers = ap (λ (r : PoolRecs). r.browsers) same ∙ ap (λ ls. map (λ l. (copy_of q l).state) (tops ls)) (sym led)

  lead_alike : (top : ℕ) → top < length p.world.leaders → leader p.world.leaders top ≡ top → (copy_of p top).state ≡ (copy_of q top).state
  lead_alike top lt itself =
      ap (λ l. (copy_of p l).state) (sym (there.2 0))
      ∙ sym (get_or-map (λ l. (copy_of p l).state) (tops p.world.leaders) there.0 0 (copy_of p 0).state there.1)
      ∙ ap (λ ss. get_or ss there.0 (copy_of p 0).state) browsers
      ∙ get_or-map (λ l. (copy_of q l).state) (tops p.world.leaders) there.0 0 (copy_of p 0).state there.1
      ∙ ap (λ l. (copy_of q l).state) (there.2 0)
    where
      there : (k : ℕ) × (k < length (tops p.world.leaders)) × HoldsAt (λ y. y ≡ top) (tops p.world.leaders) k
      there = at_from_Contains (tops p.world.leaders) top (tops_have p.world.leaders (length p.world.leaders) top lt itself)

  state_alike : (l : ℕ) → l < n → (copy_of p l).state ≡ (copy_of q l).state
  state_alike l lt =
      let less = is.valid.led.before l (omega (arith, lt, is.levels)) in
      is.valid.states_alike l (omega (arith, lt, is.levels))
      ∙ lead_alike (leader p.world.leaders l) (omega (arith, lt, less, is.levels)) (is.valid.led.itself l (omega (arith, lt, is.levels)))
      ∙ ap (λ ls. (copy_of q (leader ls l)).state) led
      ∙ sym (other.valid.states_alike l (omega (arith, lt, other.levels)))

  copy_alike : (l : ℕ) → l < n → copy_of p l ≡ copy_of q l
  copy_alike l lt =
      ap (λ s. record { state = s; inbox = (copy_of p l).inbox; outputs = (copy_of p l).outputs }) (state_alike l lt)
      ∙ ap (λ i. record { state = (copy_of q l).state; inbox = i; outputs = (copy_of p l).outputs }) (is.no_inputs l lt ∙ sym (other.no_inputs l lt))
      ∙ ap (λ o. record { state = (copy_of q l).state; inbox = (copy_of q l).inbox; outputs = o }) (is.no_outputs l lt ∙ sym (other.no_outputs l lt))

  copies_alike : p.world.copies ≡ q.world.copies
  copies_alike = same_lists p.world.copies q.world.copies (is.valid.count ∙ is.levels ∙ sym other.levels ∙ sym other.valid.count)
      (λ k d less.
      let lt : k < n = omega (arith, less, is.valid.count, is.levels) in
      get_or_default p.world.copies k d (new_copy (reactor p.fuel)) less
      ∙ copy_alike k lt
      ∙ get_or_default q.world.copies k (new_copy (reactor q.fuel)) d (omega (arith, lt, other.valid.count, other.levels)))

  pub same_pools : p ≡ q
  same_pools =
      ap (λ w. record { fuel = p.fuel; spent = p.spent; world = w }) (ap₂ (λ cs ls. record { copies = cs; leaders = ls }) copies_alike led)
      ∙ ap₂ (λ f b. record { fuel = f; spent = b; world = q.world }) (is.fuel_is ∙ sym other.fuel_is) (is.unspent ∙ sym other.unspent)
