-- The work of shared copies, as one more input comes, and where all copies are one.
use Rattle.std.proofs.Common.{◌≡◌, ℕ, zero, suc, ◌+◌, ◌<◌, ◌≤◌, Bool, true, false, cond, not, ◌&&◌, Some, List, [], ◌∷◌, ◌++◌, sum, sum_by, All, refl, ap, ap₂, ◌∙◌, arith, add-zero, zero-add}
use Rattle.std.specs.List.{list_all, cons_option}
use Rattle.std.specs.Option.{option_eq}
use Rattle.std.proofs.lemmas.List.Sums.{sum_by-append, sum_by_push}
use Rattle.std.proofs.lemmas.List.Elements.{All-head, All-tail, All-push, All-nil}
use Rattle.std.proofs.lemmas.List.Folds.{list_all-append}
use Rattle.ff_confinement.specs.Runs.{Machine, entries, after, turns_from, work_plain, handle_seen}
use Rattle.ff_confinement.specs.Copies.{Levels, seen}
use Rattle.ff_contract.specs.Lists.{below}
use Rattle.ff_confinement.specs.Sharing.{see_alike, is_least, copy_turns, work_entry, work}
use Rattle.ff_confinement.proofs.Lists.{entries-append}
use Rattle.ff_confinement.proofs.Runs.{after_more}

module _ {I O S : Type 0} (m : Machine I O S) (v : Levels I O) (same : I → I → Bool) where
  pub work_start : work m v same [] ≡ 0
  unfolding work
  work_start = refl

  pub work-append : (is js : List I) → work m v same (is ++ js) ≡ work m v same is + sum (entries (work_entry m v same) is js)
  unfolding work
  work-append is js =
      ap sum (entries-append (work_entry m v same) [] is js) ∙ sum_by-append (λ n. n) (entries (work_entry m v same) [] is) (entries (work_entry m v same) is js)

  pub work_more : (is : List I) (i : I) → work m v same (is ++ i ∷ []) ≡ work m v same is + work_entry m v same is i
  work_more is i = work-append is (i ∷ []) ∙ ap (λ n. work m v same is + n) (zero-add (work_entry m v same is i))

  pub work_grows : (is js : List I) → work m v same is ≤ work m v same (is ++ js)
  work_grows is js = omega (arith, work-append is js)

-- a test that fails at 0 fails on the numbers below n, if 0 is one of them
list_all_fails_below : (test : ℕ → Bool) (n : ℕ) → 0 < n → test 0 ≡ false → list_all test (below n) ≡ false
list_all_fails_below test zero some fails = absurd (omega arith)
list_all_fails_below test (suc zero) some fails = ap (λ b. b && true) fails
list_all_fails_below test (suc (suc n)) some fails =
    list_all-append test (below (suc n)) (suc n ∷ []) ∙ ap (λ b. b && (test (suc n) && true)) (list_all_fails_below test (suc n) (omega arith) fails)

-- a sum over the numbers below n of which only the first counts
sum_by_first_below : (f : ℕ → ℕ) (n : ℕ) → 0 < n → ((k : ℕ) → 0 < k → k < n → f k ≡ 0) → sum_by f (below n) ≡ f 0
sum_by_first_below f zero some none = absurd (omega arith)
sum_by_first_below f (suc zero) some none = zero-add (f 0)
sum_by_first_below f (suc (suc n)) some none =
    sum_by_push f (below (suc n)) (suc n)
    ∙ ap₂ (λ a b. a + b) (sum_by_first_below f (suc n) (omega arith) (λ k pos below_n. none k pos (omega arith))) (none (suc n) (omega arith) (omega arith))
    ∙ add-zero (f 0)

module _ {I O : Type 0} (v : Levels I O) where
  -- the level sees all of the inputs as they are
  abbrev pub SeesAll : ℕ → List I → Type 0
  SeesAll l is = All (λ i. v.sees l i ≡ Some i) is

  pub seen_all : (l : ℕ) (is : List I) → SeesAll l is → seen v l is ≡ is
  seen_all l [] all = refl
  seen_all l (i ∷ is) all =
      ap₂ cons_option (All-head (λ j. v.sees l j ≡ Some j) i is all) (seen_all l is (All-tail (λ j. v.sees l j ≡ Some j) i is all))

module _ {I O S : Type 0} (m : Machine I O S) (v : Levels I O) (same : I → I → Bool) (itself : (i : I) → same i i ≡ true) (some_level : 0 < v.count) where
  all_see_alike : (k l : ℕ) (is : List I) → SeesAll v k is → SeesAll v l is → see_alike m v same k l is ≡ true
  all_see_alike k l [] all_k all_l = refl
  all_see_alike k l (i ∷ is) all_k all_l =
      ap₂ (λ o p. option_eq same o p && see_alike m v same k l is) (All-head (λ j. v.sees k j ≡ Some j) i is all_k) (All-head (λ j. v.sees l j ≡ Some j) i is all_l)
      ∙ ap (λ b. b && see_alike m v same k l is) (itself i)
      ∙ all_see_alike k l is (All-tail (λ j. v.sees k j ≡ Some j) i is all_k) (All-tail (λ j. v.sees l j ≡ Some j) i is all_l)

  shared_entry : (before : List I) (i : I) → ((l : ℕ) → l < v.count → SeesAll v l before) → ((l : ℕ) → l < v.count → v.sees l i ≡ Some i)
      → work_entry m v same before i ≡ (m.handle (after m before) i).turns
  shared_entry before i all here =
      sum_by_first_below (λ l. cond (is_least m v same l (before ++ i ∷ [])) (copy_turns m v same l before i) 0) v.count some_level
      (λ k pos at_k. ap (λ b. cond b (copy_turns m v same k before i) 0)
      (list_all_fails_below (λ j. not (see_alike m v same j k (before ++ i ∷ []))) k pos (ap not (all_see_alike 0 k (before ++ i ∷ []) (more 0 some_level) (more k at_k)))))
      ∙ ap₂ (λ xs o. (handle_seen m (after m xs) o).turns) (seen_all v 0 before (all 0 some_level)) (here 0 some_level)
    where
      more : (l : ℕ) → l < v.count → SeesAll v l (before ++ i ∷ [])
      more l at_l = All-push (λ j. v.sees l j ≡ Some j) before i (all l at_l) (here l at_l)

  shared_entries : (before is : List I) → ((l : ℕ) → l < v.count → SeesAll v l before) → ((l : ℕ) → l < v.count → SeesAll v l is)
      → sum (entries (work_entry m v same) before is) ≡ turns_from m (after m before) is
  shared_entries before [] all rest = refl
  shared_entries before (i ∷ is) all rest =
      sum_by-append (λ n. n) (work_entry m v same before i ∷ []) (entries (work_entry m v same) (before ++ i ∷ []) is)
      ∙ ap₂ (λ a b. a + b)
      (zero-add (work_entry m v same before i) ∙ shared_entry before i all (λ l at_l. All-head (λ j. v.sees l j ≡ Some j) i is (rest l at_l)))
      (shared_entries (before ++ i ∷ []) is
      (λ l at_l. All-push (λ j. v.sees l j ≡ Some j) before i (all l at_l) (All-head (λ j. v.sees l j ≡ Some j) i is (rest l at_l)))
      (λ l at_l. All-tail (λ j. v.sees l j ≡ Some j) i is (rest l at_l))
      ∙ ap (λ s. turns_from m s is) (after_more m before i))

  -- on inputs that every level sees as they are, the work of all the copies is that of the one
  -- plain run
  pub work_shared : (is : List I) → ((l : ℕ) → l < v.count → SeesAll v l is) → work m v same is ≡ work_plain m is
  unfolding work work_plain after
  work_shared is all = shared_entries [] is (λ l at_l. All-nil (λ j. v.sees l j ≡ Some j)) all
