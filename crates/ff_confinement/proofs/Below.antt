-- The numbers below n, and lists with an entry for each of them.
use Rattle.std.proofs.Common.{◌≡◌, ℕ, zero, suc, ◌+◌, ◌<◌, ◌≤◌, Bool, true, false, not, ◌&&◌, List, [], ◌∷◌, ◌++◌, length, get_or, refl, sym, ap, ap₂, ◌∙◌, arith, ◌⊎◌, inl, inr, add-one}
use Rattle.std.specs.List.{position_or_len, sum_by, list_all}
use Rattle.std.proofs.lemmas.Bool.{cases_lt, cases_eq}
use Rattle.std.proofs.lemmas.List.{length_push, get_or_push, get_or_append_left, same_lists, length-map, get_or-map, map-append}
use Rattle.std.proofs.lemmas.List.Sums.{position_or_len_is, fails_before_first, passes_at_first, prefix_len-le-length, sum_by_push}
use Rattle.std.proofs.lemmas.List.Folds.{list_all-append}
use Rattle.ff_contract.specs.Lists.{below}
use Rattle.ff_confinement.specs.Worlds.{each}

pub length-below : (n : ℕ) → length (below n) ≡ n
length-below zero = refl
length-below (suc n) = length_push (below n) n ∙ ap (λ k. k + 1) (length-below n) ∙ add-one n

pub get_or-below : (n k d : ℕ) → k < n → get_or (below n) k d ≡ k
get_or-below zero k d lt = absurd (omega arith)
get_or-below (suc n) k d lt = from (cases_lt k n) (λ less. get_or-below n k d less)
  where
    from : (k < n) ⊎ (n ≤ k) → (k < n → get_or (below n) k d ≡ k) → get_or (below n ++ n ∷ []) k d ≡ k
    from (inl less) found = get_or_append_left (below n) (n ∷ []) d k (let e = length-below n in omega arith) ∙ found less
    from (inr more) found =
        let same : n ≡ k = omega arith in
        get_or_push (below n) n d k (length-below n ∙ same) ∙ same

pub length-each : {X : Type 0} (f : ℕ → X) (n : ℕ) → length (each f n) ≡ n
length-each f n = length-map (below n) f ∙ length-below n

pub get_or-each : {X : Type 0} (f : ℕ → X) (n k : ℕ) (d : X) → k < n → get_or (each f n) k d ≡ f k
get_or-each f n k d lt =
    get_or-map f (below n) k 0 d (let e = length-below n in omega arith) ∙ ap f (get_or-below n k 0 lt)

-- two functions that agree below n give the same list
pub each_agree : {X : Type 0} (f g : ℕ → X) (n : ℕ) → ((k : ℕ) → k < n → f k ≡ g k) → each f n ≡ each g n
each_agree f g zero agree = refl
each_agree f g (suc n) agree =
    map-append f (below n) (n ∷ [])
    ∙ ap₂ (λ xs x. xs ++ x ∷ []) (each_agree f g n (λ k lt. agree k (omega arith))) (agree n (omega arith))
    ∙ sym (map-append g (below n) (n ∷ []))

-- one entry more
pub each_suc : {X : Type 0} (f : ℕ → X) (n : ℕ) → each f (suc n) ≡ each f n ++ f n ∷ []
each_suc f n = map-append f (below n) (n ∷ [])

pub each_more : {X : Type 0} (f : ℕ → X) (n : ℕ) → each f (n + 1) ≡ each f n ++ f n ∷ []
each_more f n = ap (λ k. each f k) (add-one n) ∙ each_suc f n

-- a list is known by its entries
pub each_is : {X : Type 0} (f : ℕ → X) (xs : List X) (n : ℕ) → length xs ≡ n → ((k : ℕ) (d : X) → k < n → get_or xs k d ≡ f k) → xs ≡ each f n
each_is f xs n long agree =
    same_lists xs (each f n) (long ∙ sym (length-each f n)) (λ k d lt. agree k d (omega arith) ∙ sym (get_or-each f n k d (omega arith)))

-- sums that agree
pub sum_agree_below : (f g : ℕ → ℕ) (n : ℕ) → ((k : ℕ) → k < n → f k ≡ g k) → sum_by f (below n) ≡ sum_by g (below n)
sum_agree_below f g zero agree = refl
sum_agree_below f g (suc n) agree =
    sum_by_push f (below n) n
    ∙ ap₂ (λ a b. a + b) (sum_agree_below f g n (λ k lt. agree k (omega arith))) (agree n (omega arith))
    ∙ sym (sum_by_push g (below n) n)

-- sums that differ in one of the numbers alone
pub sum_one_below : (f g : ℕ → ℕ) (l n d : ℕ) → l < n → f l ≡ g l + d → ((k : ℕ) → k < n → (k ≡ l → ⊥) → f k ≡ g k) → sum_by f (below n) ≡ sum_by g (below n) + d
sum_one_below f g l zero d lt here others = absurd (omega arith)
sum_one_below f g l (suc n) d lt here others = from (cases_eq n l) (λ differ. sum_one_below f g l n d (omega arith) here (λ k less. others k (omega arith)))
  where
    from : (n ≡ l) ⊎ (n ≡ l → ⊥) → ((n ≡ l → ⊥) → sum_by f (below n) ≡ sum_by g (below n) + d) → sum_by f (below (suc n)) ≡ sum_by g (below (suc n)) + d
    from (inl e) rest =
        let a = sum_by_push f (below n) n in
        let b = sum_by_push g (below n) n in
        let same = sum_agree_below f g n (λ k less. others k (omega arith) (λ at. omega arith)) in
        let at : f n ≡ g n + d = ap f e ∙ here ∙ ap (λ m. g m + d) (sym e) in
        omega (arith, a, b, same, at)
    from (inr differ) rest =
        let a = sum_by_push f (below n) n in
        let b = sum_by_push g (below n) n in
        let same = rest differ in
        let at : f n ≡ g n = others n (omega arith) differ in
        omega (arith, a, b, same, at)

pub sum_by_pick_le : (f : ℕ → ℕ) (n l : ℕ) → l < n → f l ≤ sum_by f (below n)
sum_by_pick_le f zero l lt = absurd (omega arith)
sum_by_pick_le f (suc n) l lt = from (cases_lt l n) (λ less. sum_by_pick_le f n l less)
  where
    from : (l < n) ⊎ (n ≤ l) → (l < n → f l ≤ sum_by f (below n)) → f l ≤ sum_by f (below (suc n))
    from (inl less) rest = let a = sum_by_push f (below n) n in let b = rest less in omega (arith, a, b)
    from (inr more) rest = let a = sum_by_push f (below n) n in let e : f l ≡ f n = ap f (omega arith) in omega (arith, a, e)

pub sum_none_below : (f : ℕ → ℕ) (n : ℕ) → ((k : ℕ) → k < n → f k ≡ 0) → sum_by f (below n) ≡ 0
sum_none_below f zero none = refl
sum_none_below f (suc n) none = sum_by_push f (below n) n ∙ ap₂ (λ a b. a + b) (sum_none_below f n (λ k lt. none k (omega arith))) (none n (omega arith))

-- the least number below n that passes, or n
pub first_is : (test : ℕ → Bool) (n i : ℕ) → i ≤ n → ((k : ℕ) → k < i → test k ≡ false) → (i < n → test i ≡ true) → position_or_len test (below n) ≡ i
first_is test n i within fail pass =
    let long = length-below n in
    let end : i < length (below n) → i < n = λ lt. omega arith in
    position_or_len_is' (omega arith)
    (λ k lt. ap test (get_or-below n k 0 (omega arith)) ∙ fail k lt)
    (λ lt. ap test (get_or-below n i 0 (end lt)) ∙ pass (end lt))
  where
    position_or_len_is' : i ≤ length (below n) → ((k : ℕ) → k < i → test (get_or (below n) k 0) ≡ false) → (i < length (below n) → test (get_or (below n) i 0) ≡ true) → position_or_len test (below n) ≡ i
    position_or_len_is' a b c = position_or_len_is test (below n) i 0 a b c

pub first_within : (test : ℕ → Bool) (n : ℕ) → position_or_len test (below n) ≤ n
first_within test n = let a = prefix_len-le-length (λ k. not (test k)) (below n) in let b = length-below n in omega (arith, a, b)

pub first_fails : (test : ℕ → Bool) (n k : ℕ) → k < position_or_len test (below n) → test k ≡ false
first_fails test n k lt =
    let b = first_within test n in
    ap test (sym (get_or-below n k 0 (omega arith))) ∙ fails_before_first test (below n) k 0 lt

pub first_passes : (test : ℕ → Bool) (n : ℕ) → position_or_len test (below n) < n → test (position_or_len test (below n)) ≡ true
first_passes test n lt =
    ap test (sym (get_or-below n (position_or_len test (below n)) 0 lt)) ∙ passes_at_first test (below n) 0 (let b = length-below n in omega arith)

-- a test that passes all of the numbers below n, and one that fails some
pub list_all_below : (test : ℕ → Bool) (n : ℕ) → ((k : ℕ) → k < n → test k ≡ true) → list_all test (below n) ≡ true
list_all_below test zero pass = refl
list_all_below test (suc n) pass = list_all-append test (below n) (n ∷ []) ∙ both (list_all test (below n)) (test n) (list_all_below test n (λ k lt. pass k (omega arith))) (pass n (omega arith))
  where
    both : (a b : Bool) → a ≡ true → b ≡ true → (a && (b && true)) ≡ true
    both true true e f = refl
    both true false e f = f
    both false b e f = e
