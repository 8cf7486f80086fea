-- The words for bounds give the levels that the relations name.
use Rattle.std.proofs.Common.{◌≡◌, ℕ, ◌<◌, inl, inr, zero, suc, Bool, true, false, not, ◌&&◌, ◌||◌, List, [], ◌∷◌, ◌++◌, refl, sym, ◌∙◌, ap, subst, arith, length, cond}
use Rattle.std.specs.List.{list_all}
use Rattle.std.proofs.lemmas.Bool.{cases_eq, cases_Bool, and_parts, and_from, cond-true, cond-false, true≢false}
use Rattle.ff_lattice.specs.Bounds.{Flip, IsJoin, IsMeet, HasJoin}
use Rattle.ff_lattice.specs.LevelSet.{below}
use Rattle.ff_lattice.specs.Relation.{Related, IsRelation, IsKept}
use Rattle.ff_lattice.proofs.Orders.{Agree, Agree-sym, IsJoin-agree, HasJoin-agree, turned-agree}
use Rattle.ff_lattice.specs.Order.{Order, size, leq, pick, is_least_above, join, meet, bottom, top, AtOrBelow, IsOrder}

-- ---- the one that passes

pub pick_one : (passes : ℕ → Bool) (n c : ℕ) → c < n → passes c ≡ true → ((d : ℕ) → d < n → passes d ≡ true → d ≡ c) → pick passes n ≡ c
unfolding pick
pick_one passes zero c in_c is one = absurd (omega arith)
pick_one passes (suc n) c in_c is one =
    elim (cases_eq c n) as (λ _. cond (passes n) n (pick passes n) ≡ c) [
      | inl e ↦ cond-true (passes n) n (pick passes n) (ap passes (sym e) ∙ is) ∙ sym e
      | inr ne ↦
          let last : passes n ≡ false = elim (cases_Bool (passes n)) as (λ _. passes n ≡ false) [
            | inl on ↦ absurd (ne (sym (one n (omega arith) on)))
            | inr off ↦ off
          ] in
          cond-false (passes n) n (pick passes n) last ∙ pick_one passes n c (omega arith) is (λ d in_d on. one d (omega arith) on)
    ]

-- ---- each level passes

all_append : (p : ℕ → Bool) (xs : List ℕ) (l : ℕ) → list_all p (xs ++ l ∷ []) ≡ (list_all p xs && (p l && true))
all_append p [] l = refl
all_append p (x ∷ xs) l = elim (p x) as (λ b. (b && list_all p (xs ++ l ∷ [])) ≡ ((b && list_all p xs) && (p l && true))) [ true ↦ all_append p xs l | false ↦ refl ]

pub all_below : (p : ℕ → Bool) (n : ℕ) → ((l : ℕ) → l < n → p l ≡ true) → list_all p (below n) ≡ true
unfolding below
all_below p zero each = refl
all_below p (suc n) each =
    all_append p (below n) n
    ∙ and_from (list_all p (below n)) (p n && true) (all_below p n (λ l in_l. each l (omega arith))) (and_from (p n) true (each n (omega arith)) refl)

pub each_below : (p : ℕ → Bool) (n : ℕ) → list_all p (below n) ≡ true → (l : ℕ) → l < n → p l ≡ true
unfolding below
each_below p zero all l in_l = absurd (omega arith)
each_below p (suc n) all l in_l =
    let parts = and_parts (list_all p (below n)) (p n && true) (sym (all_append p (below n) n) ∙ all) in
    elim (cases_eq l n) as (λ _. p l ≡ true) [
      | inl e ↦ ap p e ∙ (and_parts (p n) true parts.1).0
      | inr ne ↦ each_below p n parts.0 l (omega arith)
    ]

-- ---- bounds

module _ (holds : ℕ → ℕ → Bool) (n : ℕ) (antisymmetric : (x y : ℕ) → x < n → y < n → holds x y ≡ true → holds y x ≡ true → x ≡ y) (a b : ℕ) where
  abbrev R : ℕ → ℕ → Type 0
  R x y = holds x y ≡ true

  implied : (x y : Bool) → (not x || y) ≡ true → x ≡ true → y ≡ true
  implied true y h on = h
  implied false y h on = absurd (true≢false (sym on))

  implies : (x y : Bool) → (x ≡ true → y ≡ true) → (not x || y) ≡ true
  implies true y h = h refl
  implies false y h = refl

  test_from_join : (c : ℕ) → IsJoin R n a b c → is_least_above holds n a b c ≡ true
  test_from_join c bound =
      and_from (holds a c && holds b c) (list_all (λ d. not (holds a d && holds b d) || holds c d) (below n))
      (and_from (holds a c) (holds b c) bound.above_first bound.above_second)
      (all_below (λ d. not (holds a d && holds b d) || holds c d) n (λ d in_d.
      implies (holds a d && holds b d) (holds c d) (λ both.
      let parts = and_parts (holds a d) (holds b d) both in bound.least d in_d parts.0 parts.1)))

  join_from_test : (c : ℕ) → c < n → is_least_above holds n a b c ≡ true → IsJoin R n a b c
  join_from_test c in_c is =
      let halves = and_parts (holds a c && holds b c) (list_all (λ d. not (holds a d && holds b d) || holds c d) (below n)) is in
      let above = and_parts (holds a c) (holds b c) halves.0 in
      record {
        within = in_c;
        above_first = above.0;
        above_second = above.1;
        least = λ d in_d first second.
            implied (holds a d && holds b d) (holds c d) (each_below (λ k. not (holds a k && holds b k) || holds c k) n halves.1 d in_d) (and_from (holds a d) (holds b d) first second);
      }

  one_join : (c d : ℕ) → IsJoin R n a b c → IsJoin R n a b d → d ≡ c
  one_join c d one other = antisymmetric d c other.within one.within (other.least c one.within one.above_first one.above_second) (one.least d other.within other.above_first other.above_second)

  pub pick_join : (c : ℕ) → IsJoin R n a b c → pick (is_least_above holds n a b) n ≡ c
  pick_join c bound =
      pick_one (is_least_above holds n a b) n c bound.within (test_from_join c bound) (λ d in_d is. one_join c d bound (join_from_test d in_d is))

module _ (order : Order) (valid : IsOrder order) where
  pub join-is : (a b c : ℕ) → IsJoin (AtOrBelow order) (size order) a b c → c ≡ join order a b
  unfolding join
  join-is a b c bound = sym (pick_join (leq order) (size order) valid.lattice.antisymmetric a b c bound)

  pub meet-is : (a b c : ℕ) → IsMeet (AtOrBelow order) (size order) a b c → c ≡ meet order a b
  unfolding meet
  meet-is a b c bound = sym (pick_join (λ x y. leq order y x) (size order) (λ x y in_x in_y there back. valid.lattice.antisymmetric x y in_x in_y back there) a b c bound)

  pub bottom-is : (c : ℕ) → c < size order → ((l : ℕ) → l < size order → AtOrBelow order c l) → c ≡ bottom order
  unfolding bottom
  bottom-is c in_c least =
      sym (pick_one (λ l. list_all (leq order l) (below (size order))) (size order) c in_c (all_below (leq order c) (size order) least)
      (λ d in_d is. valid.lattice.antisymmetric d c in_d in_c (each_below (leq order d) (size order) is c in_c) (least d in_d)))

  pub top-is : (c : ℕ) → c < size order → ((l : ℕ) → l < size order → AtOrBelow order l c) → c ≡ top order
  unfolding top
  top-is c in_c greatest =
      sym (pick_one (λ l. list_all (λ m. leq order m l) (below (size order))) (size order) c in_c (all_below (λ m. leq order m c) (size order) greatest)
      (λ d in_d is. valid.lattice.antisymmetric d c in_d in_c (greatest d in_d) (each_below (λ m. leq order m d) (size order) is c in_c)))

-- ---- the tables of a lattice

module _ (order : Order) (under : List (List ℕ)) (kept : IsKept order under) where
  count : length order.above ≡ size order
  count = kept.valid.rows

  -- the table of those below is one of its own size
  pub under_rows : (rows : List (List ℕ)) → rows ≡ under → IsRelation (length rows) rows
  under_rows rows is = subst (λ (r : List (List ℕ)). IsRelation (length r) r) (sym is) (subst (λ (k : ℕ). IsRelation k under) (sym kept.turned.rows.count) kept.turned.rows)

  pub up_join : (rows : List (List ℕ)) → rows ≡ order.above → (a b : ℕ) → a < size order → b < size order → HasJoin (Related rows) (length rows) a b
  up_join rows is a b in_a in_b =
      subst (λ (r : List (List ℕ)). HasJoin (Related r) (length r) a b) (sym is)
      (subst (λ (k : ℕ). HasJoin (Related order.above) k a b) (sym count) (kept.valid.lattice.joins a b in_a in_b))

  pub join_from_up : (rows : List (List ℕ)) → rows ≡ order.above → (a b c : ℕ) → IsJoin (Related rows) (length rows) a b c → IsJoin (AtOrBelow order) (size order) a b c
  join_from_up rows is a b c bound =
      subst (λ (k : ℕ). IsJoin (Related order.above) k a b c) count (subst (λ (r : List (List ℕ)). IsJoin (Related r) (length r) a b c) is bound)

  down_size : length under ≡ size order
  down_size = kept.turned.rows.count ∙ count

  down_agree : Agree (size order) (Related under) (Flip (AtOrBelow order))
  down_agree = turned-agree order.above under (size order) kept.turned

  pub down_meet : (rows : List (List ℕ)) → rows ≡ under → (a b : ℕ) → a < size order → b < size order → HasJoin (Related rows) (length rows) a b
  down_meet rows is a b in_a in_b =
      subst (λ (r : List (List ℕ)). HasJoin (Related r) (length r) a b) (sym is)
      (subst (λ (k : ℕ). HasJoin (Related under) k a b) (sym down_size)
      (HasJoin-agree (size order) (Flip (AtOrBelow order)) (Related under) (Agree-sym (size order) (Related under) (Flip (AtOrBelow order)) down_agree) a b in_a in_b (kept.valid.lattice.meets a b in_a in_b)))

  pub meet_from_down : (rows : List (List ℕ)) → rows ≡ under → (a b c : ℕ) → a < size order → b < size order → IsJoin (Related rows) (length rows) a b c → IsMeet (AtOrBelow order) (size order) a b c
  meet_from_down rows is a b c in_a in_b bound =
      IsJoin-agree (size order) (Related under) (Flip (AtOrBelow order)) down_agree a b c in_a in_b
      (subst (λ (k : ℕ). IsJoin (Related under) k a b c) down_size (subst (λ (r : List (List ℕ)). IsJoin (Related r) (length r) a b c) is bound))
