-- What is saved of where copies stand: that of copies that stand alike, and of a pool.
use Rattle.std.proofs.Common.{◌≡◌, ◌≢◌, ◌<◌, ◌≤◌, ◌==◌, ◌&&◌, ℕ, zero, suc, Bool, true, false, not, cond, nat_lt, List, [], ◌∷◌, ◌++◌, length, map, filter, refl, sym, ap, ap₂, ◌∙◌, ◌⊎◌, inl, inr, arith}
use Rattle.std.specs.List.{list_all}
use Rattle.std.proofs.lemmas.Bool.{cases_lt, cases_eq, eq-eqb, ne_eqb}
use Rattle.std.proofs.lemmas.Bool.Decides.{nat_tests}
use Rattle.std.proofs.lemmas.List.{map-append}
use Rattle.std.proofs.lemmas.List.Elements.{filter-append}
use Rattle.std.proofs.lemmas.List.Folds.{list_all-append}
use Rattle.ff_lattice.specs.LevelSet.{levels_where}
use Rattle.ff_lattice.specs.Order.{size}
use Rattle.ff_lattice.proofs.LevelSets.{levels_same}
use Rattle.ff_machine.specs.State.{State}
use Rattle.ff_policy.specs.Assignment.{Assignment}
use Rattle.ff_pool.specs.Classes.{class_of, leads, tops}
use Rattle.ff_pool.specs.Pooled.{Pooled, copy_of}
use Rattle.ff_pool.specs.Restored.{IsResting}
use Rattle.ff_contract.specs.Lists.{below}
use Rattle.ff_confinement.specs.Standings.{Standing, StandAlike}
use Rattle.ff_confinement.specs.Worlds.{leader, AreLeaders}
use Rattle.ff_confinement.proofs.Below.{list_all_below}
use Rattle.ff_confinement.proofs.Standings.{states_rest, alike_stays_rest}
use Rattle.ff_saved_rows.specs.Recs.{stores_recs}
use Rattle.ff_save.specs.Saved.{saved_recs, saved_text}
use Rattle.ff_save.specs.Whole.{IsSaved, IsWhole}
use Rattle.ff_session.specs.Levels.{levels, machine}
use Rattle.ff_session.specs.Multi.{seen_by, stands_after}
use Rattle.ff_value.specs.Same.{same_input}
use Rattle.ff_value.specs.declared.input.Input.{Input}
use Rattle.ff_resume.specs.Resumed.{class_at, leads_at, standing_recs, standing_text, stand_of}

-- lists over the levels below n that pass a test, where tests and values agree below n
same_over : {X : Type 0} (p q : ℕ → Bool) (f g : ℕ → X) (n : ℕ) → ((l : ℕ) → l < n → p l ≡ q l) → ((l : ℕ) → l < n → f l ≡ g l) → map f (filter p (below n)) ≡ map g (filter q (below n))
same_over p q f g zero tests values = refl
same_over {X} p q f g (suc n) tests values =
    ap (map f) (filter-append p (below n) (n ∷ []))
    ∙ map-append f (filter p (below n)) (filter p (n ∷ []))
    ∙ ap₂ (λ xs ys. xs ++ ys) (same_over p q f g n (λ l lt. tests l (omega (arith, lt))) (λ l lt. values l (omega (arith, lt)))) (last (p n) (q n) (tests n (omega arith)) (values n (omega arith)))
    ∙ sym (map-append g (filter q (below n)) (filter q (n ∷ [])))
    ∙ ap (map g) (sym (filter-append q (below n) (n ∷ [])))
  where
    last : (a b : Bool) → a ≡ b → f n ≡ g n → map f (cond a (n ∷ []) []) ≡ map g (cond b (n ∷ []) [])
    last true true same at = ap (λ x. x ∷ []) at
    last false false same at = refl
    last true false same at = cc
    last false true same at = cc

-- tests of all levels below n
all_agree : (p q : ℕ → Bool) (n : ℕ) → ((l : ℕ) → l < n → p l ≡ q l) → list_all p (below n) ≡ list_all q (below n)
all_agree p q zero same = refl
all_agree p q (suc n) same =
    list_all-append p (below n) (n ∷ [])
    ∙ ap₂ (λ a b. a && (b && true)) (all_agree p q n (λ l lt. same l (omega (arith, lt)))) (same n (omega arith))
    ∙ sym (list_all-append q (below n) (n ∷ []))

one_fails : (p : ℕ → Bool) (n k : ℕ) → k < n → p k ≡ false → list_all p (below n) ≡ false
one_fails p zero k lt fails = absurd (omega (arith, lt))
one_fails p (suc n) k lt fails = list_all-append p (below n) (n ∷ []) ∙ from (cases_lt k n) (λ less. one_fails p n k less fails)
  where
    from : (k < n) ⊎ (n ≤ k) → (k < n → list_all p (below n) ≡ false) → (list_all p (below n) && (p n && true)) ≡ false
    from (inl less) rest = ap (λ b. b && (p n && true)) (rest less)
    from (inr more) rest =
        let same : k ≡ n = omega (arith, lt, more) in
        ap (λ b. list_all p (below n) && (b && true)) (sym (ap p same) ∙ fails) ∙ and_false (list_all p (below n))
      where
        and_false : (b : Bool) → (b && false) ≡ false
        and_false true = refl
        and_false false = refl

-- the levels that pass a test, where tests agree below n
class_agrees : (n : ℕ) (p q : ℕ → Bool) → ((k : ℕ) → k < n → p k ≡ q k) → levels_where (λ k. nat_lt k n && p k) ≡ levels_where (λ k. nat_lt k n && q k)
class_agrees n p q same = levels_same (λ k. nat_lt k n && p k) (λ k. nat_lt k n && q k) (λ k small. from k (cases_lt k n))
  where
    from : (k : ℕ) → (k < n) ⊎ (n ≤ k) → (nat_lt k n && p k) ≡ (nat_lt k n && q k)
    from k (inl less) = ap (λ b. nat_lt k n && b) (same k less)
    from k (inr more) = let no : nat_lt k n ≡ false = grind (arith, nat_tests) in ap (λ b. b && p k) no ∙ sym (ap (λ b. b && q k) no)

-- copies that stand alike
module _ {n : ℕ} {a b : Standing State} (alike : StandAlike n a b) where
  leads_agree : (l : ℕ) → l < n → leads_at a l ≡ leads_at b l
  leads_agree l inside = all_agree (λ k. not (a.alike k l)) (λ k. not (b.alike k l)) l (λ k less. ap not (alike.classes k l (omega (arith, less, inside)) inside))

  pub recs_agree : standing_recs n a ≡ standing_recs n b
  recs_agree =
      ap₂ (λ cs bs. record { classes = cs; browsers = bs })
      (same_over (leads_at a) (leads_at b) (class_at n a) (class_at n b) n leads_agree (λ l inside. class_agrees n (λ k. a.alike k l) (λ k. b.alike k l) (λ k less. alike.classes k l less inside)))
      (same_over (leads_at a) (leads_at b) (λ l. stores_recs (a.states l).stores) (λ l. stores_recs (b.states l).stores) n leads_agree (λ l inside. ap (λ (s : State). stores_recs s.stores) (alike.states l inside)))

pub text_agrees : (p : Assignment) (a b : Standing State) → StandAlike (size p.order) a b → standing_text p a ≡ standing_text p b
text_agrees p a b alike = ap (saved_text p) (recs_agree alike)

-- a level leads where no level before it has its leader
leads_is : (leaders : List ℕ) → AreLeaders leaders → (l : ℕ) → l < length leaders → list_all (λ k. not (leader leaders k == leader leaders l)) (below l) ≡ leads leaders l
leads_is leaders are l inside = from (cases_eq (leader leaders l) l)
  where
    from : (leader leaders l ≡ l) ⊎ (leader leaders l ≢ l) → list_all (λ k. not (leader leaders k == leader leaders l)) (below l) ≡ leads leaders l
    from (inl itself) =
        list_all_below (λ k. not (leader leaders k == leader leaders l)) l
        (λ k less. ap not (ne_eqb (leader leaders k) (leader leaders l) (λ e. let down = are.before k (omega (arith, less, inside)) in omega (arith, e, down, less, itself))))
        ∙ sym (eq-eqb (leader leaders l) l itself)
    from (inr led) =
        let down = are.before l inside in
        let less : leader leaders l < l = lower (leader leaders l) l down led in
        one_fails (λ k. not (leader leaders k == leader leaders l)) l (leader leaders l) less (ap not (eq-eqb (leader leaders (leader leaders l)) (leader leaders l) (are.itself l inside)))
        ∙ sym (ne_eqb (leader leaders l) l led)
      where
        lower : (m k : ℕ) → m ≤ k → m ≢ k → m < k
        lower m k up other = by (cases_lt m k)
          where
            by : (m < k) ⊎ (k ≤ m) → m < k
            by (inl less) = less
            by (inr more) = absurd (other (omega (arith, up, more)))

-- what is saved of a pool at rest is what is saved of where its copies stand
pub pool_stands : {n fuel : ℕ} (pool : Pooled) → IsResting n fuel pool → standing_recs n (stand_of pool) ≡ saved_recs pool
unfolding class_of
pool_stands {n} {fuel} pool is =
    ap₂ (λ cs bs. record { classes = cs; browsers = bs })
    (same_over (leads_at (stand_of pool)) (leads leaders) (class_at n (stand_of pool)) (class_of leaders) n leads_agree (λ l inside. class_is l)
    ∙ ap (λ m. map (class_of leaders) (filter (leads leaders) (below m))) (sym is.levels))
    (same_over (leads_at (stand_of pool)) (leads leaders) (λ l. stores_recs (copy_of pool l).state.stores) (λ l. stores_recs (copy_of pool l).state.stores) n leads_agree (λ l inside. refl)
    ∙ ap (λ m. map (λ l. stores_recs (copy_of pool l).state.stores) (filter (leads leaders) (below m))) (sym is.levels)
    ∙ sym (map_twice (tops leaders)))
  where
    leaders : List ℕ
    leaders = pool.world.leaders

    leads_agree : (l : ℕ) → l < n → leads_at (stand_of pool) l ≡ leads pool.world.leaders l
    leads_agree l inside = leads_is pool.world.leaders is.valid.led l (omega (arith, inside, is.levels))

    class_is : (l : ℕ) → class_at n (stand_of pool) l ≡ class_of pool.world.leaders l
    class_is l = ap (λ m. levels_where (λ k. nat_lt k m && leader pool.world.leaders k == leader pool.world.leaders l)) (sym is.levels)

    map_twice : (ls : List ℕ) → map (λ (s : State). stores_recs s.stores) (map (λ l. (copy_of pool l).state) ls) ≡ map (λ l. stores_recs (copy_of pool l).state.stores) ls
    map_twice [] = refl
    map_twice (l ∷ ls) = ap (λ rs. stores_recs (copy_of pool l).state.stores ∷ rs) (map_twice ls)

-- the copies stand after the whole run where they stand after its parts
pub parts_stand : (p : Assignment) (from : Standing State) (is js : List Input) → StandAlike (size p.order) (stands_after p (stands_after p from is) js) (stands_after p from (is ++ js))
parts_stand p from is js = record {
  states = λ l inside. sym (states_rest (machine p) (levels p) (seen_by p) from same_input is js l);
  classes = λ k l in_k in_l. sym (alike_stays_rest (machine p) (levels p) (seen_by p) from same_input is js k l);
}

-- copies that stand where those of a pool at rest stand are saved as that pool is
pub pool_text : (p : Assignment) (pool : Pooled) (at : Standing State) → IsResting (size p.order) p.fuel pool → StandAlike (size p.order) (stand_of pool) at → standing_text p at ≡ saved_text p (saved_recs pool)
pool_text p pool at rests alike = sym (text_agrees p (stand_of pool) at alike) ∙ ap (saved_text p) (pool_stands pool rests)

pub pool_saved : (p : Assignment) (pool : Pooled) (at : Standing State) → IsWhole p pool → StandAlike (size p.order) (stand_of pool) at → IsSaved p (standing_text p at) pool
pool_saved p pool at whole alike = record { whole = whole; text = pool_text p pool at whole.rests alike }
