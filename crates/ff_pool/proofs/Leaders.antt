-- The leaders of classes: which levels lead, and that the leaders of given classes are the only
-- ones.
use Rattle.std.proofs.Common.{◌≡◌, ◌≢◌, ℕ, zero, suc, ◌+◌, ◌<◌, ◌≤◌, true, false, cond, ◌==◌, ◌&&◌, List, [], ◌∷◌, ◌++◌, length, map, filter, All, Contains, get_or, refl, sym, ap, subst, ◌∙◌, arith, ◌⊎◌, inl, inr, add-one, ltb}
use Rattle.std.proofs.lemmas.Bool.{cases_lt, eq-eqb, eqb-true, lt-ltb, ne_eqb}
use Rattle.std.proofs.lemmas.List.{get_or-map, length-map, length-append, append-nil, map-append}
use Rattle.std.proofs.lemmas.List.Elements.{All-contains, All-filter, All-from_get_or, All-get_or, filter-append, filter_passes, Contains-append_left, Contains-push}
use Rattle.ff_lattice.specs.LevelSet.{has, IsLeast}
use Rattle.ff_lattice.specs.declared.names.TheConstants.{MOST_LEVELS}
use Rattle.ff_lattice.proofs.LevelSets.{has_in_range}
use Rattle.ff_contract.specs.Lists.{below}
use Rattle.ff_confinement.specs.Worlds.{leader}
use Rattle.ff_confinement.proofs.Below.{length-below, get_or-below}
use Rattle.ff_pool.specs.Classes.{class_of, leads, tops, classes_of, AreLed, IsLeastWith}

-- the levels below n that lead, and their classes
abbrev pub tops_below : List ℕ → ℕ → List ℕ
tops_below leaders n = filter (leads leaders) (below n)

abbrev pub classes_below : List ℕ → ℕ → List (List ℕ)
classes_below leaders n = map (class_of leaders) (tops_below leaders n)

module _ (leaders : List ℕ) where
  -- one level more, that leads or doesn't
  tops_suc : (l : ℕ) → tops_below leaders (suc l) ≡ tops_below leaders l ++ cond (leads leaders l) (l ∷ []) []
  tops_suc l = filter-append (leads leaders) (below l) (l ∷ [])

  pub tops_more : (l : ℕ) → leader leaders l ≡ l → tops_below leaders (suc l) ≡ tops_below leaders l ++ l ∷ []
  tops_more l at = tops_suc l ∙ ap (λ b. tops_below leaders l ++ cond b (l ∷ []) []) (eq-eqb (leader leaders l) l at)

  pub tops_same : (l : ℕ) → leader leaders l ≢ l → tops_below leaders (suc l) ≡ tops_below leaders l
  tops_same l at =
      tops_suc l ∙ ap (λ b. tops_below leaders l ++ cond b (l ∷ []) []) (ne_eqb (leader leaders l) l at)
      ∙ append-nil (tops_below leaders l)

  -- those below n are below n, and lead
  pub tops_less : (n : ℕ) → All (λ l. l < n) (tops_below leaders n)
  tops_less n = All-filter (leads leaders) (λ l. l < n) (below n)
      (All-from_get_or (λ l. l < n) (below n) 0 (λ k less. subst (λ m. m < n) (sym (get_or-below n k 0 (omega (arith, less, length-below n)))) (omega (arith, less, length-below n))))

  pub tops_lead : (n k d : ℕ) → k < length (tops_below leaders n) → leader leaders (get_or (tops_below leaders n) k d) ≡ get_or (tops_below leaders n) k d
  tops_lead n k d less = eqb-true _ _ (All-get_or (λ l. leads leaders l ≡ true) (tops_below leaders n) k d less (filter_passes (leads leaders) (below n)))

  -- each that leads is among them
  pub tops_have : (n top : ℕ) → top < n → leader leaders top ≡ top → Contains (tops_below leaders n) top
  tops_have zero top less leads_itself = absurd (omega (arith, less))
  tops_have (suc n) top less leads_itself = from (cases_lt top n) (λ before. tops_have n top before leads_itself)
    where
      from : (top < n) ⊎ (n ≤ top) → (top < n → Contains (tops_below leaders n) top) → Contains (tops_below leaders (suc n)) top
      from (inl before) rest = subst (λ ls. Contains ls top) (sym (tops_suc n)) (Contains-append_left (tops_below leaders n) (cond (leads leaders n) (n ∷ []) []) top (rest before))
      from (inr past) rest =
          let e : top ≡ n = omega arith in
          subst (λ ls. Contains ls top) (sym (tops_more n (ap (leader leaders) (sym e) ∙ leads_itself ∙ e)))
          (subst (λ m. Contains (tops_below leaders n ++ m ∷ []) top) e (Contains-push (tops_below leaders n) top))

  -- there are more of them below more levels
  pub tops_grow : (m n : ℕ) → m ≤ n → length (tops_below leaders m) ≤ length (tops_below leaders n)
  tops_grow m zero up = let e : m ≡ 0 = omega arith in omega (arith, ap (λ k. length (tops_below leaders k)) e)
  tops_grow m (suc n) up = from (cases_lt n m) (λ before. tops_grow m n before)
    where
      long : length (tops_below leaders n) ≤ length (tops_below leaders (suc n))
      long = omega (arith, ap length (tops_suc n) ∙ length-append (tops_below leaders n) (cond (leads leaders n) (n ∷ []) []))

      from : (n < m) ⊎ (m ≤ n) → (m ≤ n → length (tops_below leaders m) ≤ length (tops_below leaders n)) → length (tops_below leaders m) ≤ length (tops_below leaders (suc n))
      from (inl past) rest = let e : m ≡ suc n = omega arith in omega (arith, ap (λ k. length (tops_below leaders k)) e)
      from (inr before) rest = let a = rest before in let b = long in omega (arith, a, b)

  -- a level is in the class of another one where both have one leader
  pub has_class : (j l : ℕ) → length leaders ≤ MOST_LEVELS → l < length leaders → has (class_of leaders j) l ≡ (leader leaders l == leader leaders j)
  unfolding class_of
  has_class j l few lt =
      has_in_range (λ k. ltb k (length leaders) && leader leaders k == leader leaders j) l (omega (arith, few, lt))
      ∙ ap (λ b. b && leader leaders l == leader leaders j) (lt-ltb l (length leaders) lt)

  pub classes_more : (l : ℕ) → leader leaders l ≡ l → classes_below leaders (l + 1) ≡ classes_below leaders l ++ class_of leaders l ∷ []
  classes_more l at =
      ap (classes_below leaders) (add-one l) ∙ ap (map (class_of leaders)) (tops_more l at) ∙ map-append (class_of leaders) (tops_below leaders l) (l ∷ [])

  pub classes_same : (l : ℕ) → leader leaders l ≢ l → classes_below leaders (l + 1) ≡ classes_below leaders l
  classes_same l at = ap (classes_below leaders) (add-one l) ∙ ap (map (class_of leaders)) (tops_same l at)

-- the leaders of given classes: each level is in one of them, which has its leader as the least
module _ {n : ℕ} {classes : List (List ℕ)} {leaders : List ℕ} (most : n ≤ MOST_LEVELS) (are : AreLed n classes leaders) where
  few : length leaders ≤ MOST_LEVELS
  few = omega (arith, most, are.levels)

  pub led_some : (l : ℕ) → l < n → All (λ class. has class l ≡ false) classes → ⊥
  led_some l lt none =
      let top = leader leaders l in
      let less = are.led.before l (omega (arith, lt, are.levels)) in
      let there = tops_have leaders (length leaders) top (omega (arith, lt, less, are.levels)) (are.led.itself l (omega (arith, lt, are.levels))) in
      let same : has (class_of leaders top) l ≡ (leader leaders l == leader leaders top) = has_class leaders top l few (omega (arith, lt, are.levels)) in
      let yes : has (class_of leaders top) l ≡ true = same ∙ eq-eqb (leader leaders l) (leader leaders top) (sym (are.led.itself l (omega (arith, lt, are.levels)))) in
      let no : has (class_of leaders top) l ≡ false = All-contains (λ j. has (class_of leaders j) l ≡ false) (tops leaders) top (of_map (subst (λ cs. All (λ class. has class l ≡ false) cs) (sym are.classes_are) none)) there in
      cc
    where
      of_map : All (λ class. has class l ≡ false) (classes_of leaders) → All (λ j. has (class_of leaders j) l ≡ false) (tops leaders)
      of_map all = All-from_get_or (λ j. has (class_of leaders j) l ≡ false) (tops leaders) 0
          (λ k less. subst (λ class. has class l ≡ false) (get_or-map (class_of leaders) (tops leaders) k 0 [] less)
          (All-get_or (λ class. has class l ≡ false) (classes_of leaders) k [] (omega (arith, less, length-map (tops leaders) (class_of leaders))) all))

  pub led_least : (l m : ℕ) → l < n → IsLeastWith classes l m → m ≡ leader leaders l
  led_least l m lt is =
      let j_leads : leader leaders j ≡ j = tops_lead leaders (length leaders) is.place 0 within in
      let j_in : j < length leaders = All-get_or (λ i. i < length leaders) (tops leaders) is.place 0 within (tops_less leaders (length leaders)) in
      let l_of : leader leaders l ≡ leader leaders j = eqb-true _ _ (sym (has_class leaders j l few (omega (arith, lt, are.levels))) ∙ subst (λ class. has class l ≡ true) at is.held) in
      let least : IsLeast (class_of leaders j) m = subst (λ class. IsLeast class m) at is.first in
      let up : m ≤ j = not_past least j_leads j_in (cases_lt j m) in
      let m_of : leader leaders m ≡ leader leaders j = eqb-true _ _ (sym (has_class leaders j m few (omega (arith, up, j_in))) ∙ least.held) in
      let down = are.led.before m (omega (arith, up, j_in)) in
      omega (arith, up, down, m_of, j_leads, l_of)
    where
      within : is.place < length (tops leaders)
      within = omega (arith, is.within, ap length are.classes_are, length-map (tops leaders) (class_of leaders))

      j : ℕ
      j = get_or (tops leaders) is.place 0

      at : get_or classes is.place [] ≡ class_of leaders j
      at = ap (λ cs. get_or cs is.place []) (sym are.classes_are) ∙ get_or-map (class_of leaders) (tops leaders) is.place 0 [] within

      not_past : IsLeast (class_of leaders j) m → leader leaders j ≡ j → j < length leaders → (j < m) ⊎ (m ≤ j) → m ≤ j
      not_past least j_leads j_in (inr up) = up
      not_past least j_leads j_in (inl past) =
          let no = least.first j past in
          let yes : has (class_of leaders j) j ≡ true = has_class leaders j j few j_in ∙ eq-eqb (leader leaders j) (leader leaders j) refl in
          absurd (cc)
