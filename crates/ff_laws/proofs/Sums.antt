-- The sum over the values of a finite map after one value was put, and after one key was removed.
use Rattle.std.proofs.Common.{◌≡◌, ℕ, ◌+◌, ◌≤◌, Bool, true, false, cond, ◌&&◌, Option, Some, None, List, [], ◌∷◌, length, map, sum_by, refl, sym, ap, ◌∙◌, arith, is_some, suc}
use Rattle.std.proofs.lemmas.List.Sums.{sum_by-cons}
use Rattle.std.specs.declared.cmp.Ordering.{Ordering}
use Rattle.std.specs.declared.cmp.Ordering.TheVariants.{Less, Equal, Greater}
use Rattle.std.specs.Ordering.{is_eq}
use Rattle.std.specs.Cmp.{IsTotalOrder}
use Rattle.std.specs.FinMap.{put, find, is_sorted}
use Rattle.std.specs.FinMap.Entries.{length-put, by_order, where_key}
use Rattle.std.proofs.Math.Dec.{T}

-- what a value adds to the sum, where there is one
abbrev pub value_or : {X : Type 0} → (X → ℕ) → Option X → ℕ
value_or f None = 0
value_or f (Some x) = f x

later : (a b : Bool) → T (a && b) → T b
later true b h = h
later false b h = absurd h

found_none : {X : Type 0} (f : X → ℕ) (o : Option X) (n : ℕ) → suc n ≡ cond (is_some o) n (n + 1) → value_or f o ≡ 0
found_none f None n e = refl
found_none f (Some x) n e = absurd (omega (arith, e))

-- the sum over the values of a list of values is that over its entries
pub sum_values : {K X : Type 0} (f : X → ℕ) (es : List (K × X)) → sum_by f (map (λ e. e.1) es) ≡ sum_by (λ e. f e.1) es
sum_values f [] = refl
sum_values f (e ∷ es) = sum_by-cons f e.1 (map (λ e. e.1) es) ∙ ap (λ n. f e.1 + n) (sum_values f es) ∙ sym (sum_by-cons (λ e. f e.1) e es)

module _ {K X : Type 0} {R : K → K → Ordering} (o : IsTotalOrder R) (f : X → ℕ) where
  -- the sum over the values of entries
  abbrev pub total : List (K × X) → ℕ
  total es = sum_by (λ e. f e.1) es

  -- nothing is found at a key below the first
  none_below : (k : K) (v : X) (e : K × X) (es : List (K × X)) → T (is_sorted R (e ∷ es)) → R k e.0 ≡ Less → value_or f (cond (is_eq Less) (Some e.1) (find R k es)) ≡ 0
  none_below k v e es h p =
      let grown = length-put R o k v (e ∷ es) h in
      let here = rw p at grown in
      found_none f (find R k es) (suc (length es)) here

  -- after a value was put
  pub sum_put : (k : K) (v : X) (es : List (K × X)) → T (is_sorted R es) → total (put R k v es) + value_or f (find R k es) ≡ total es + f v
  sum_put k v [] h = omega (arith, sum_by-cons (λ (e : K × X). f e.1) (k, v) [])
  sum_put k v (e ∷ es) h =
      elim (R k e.0) as (λ r. R k e.0 ≡ r → total (by_order r ((k, v) ∷ e ∷ es) ((e.0, v) ∷ es) (e ∷ put R k v es)) + value_or f (cond (is_eq r) (Some e.1) (find R k es)) ≡ total (e ∷ es) + f v) [
        | Less ↦ λ p. omega (arith, sum_by-cons (λ (e : K × X). f e.1) (k, v) (e ∷ es), none_below k v e es h p)
        | Equal ↦ λ p. omega (arith, sum_by-cons (λ (e : K × X). f e.1) (e.0, v) es, sum_by-cons (λ (e : K × X). f e.1) e es)
        | Greater ↦ λ p. omega (arith, sum_put k v es (later _ _ h), sum_by-cons (λ (e : K × X). f e.1) e es, sum_by-cons (λ (e : K × X). f e.1) e (put R k v es))
      ] refl

  kept_or_not : (b : Bool) (e : K × X) (es kept : List (K × X)) → total kept ≤ total es → total (cond b (e ∷ kept) kept) ≤ total (e ∷ es)
  kept_or_not true e es kept h = omega (arith, h, sum_by-cons (λ (e : K × X). f e.1) e es, sum_by-cons (λ (e : K × X). f e.1) e kept)
  kept_or_not false e es kept h = omega (arith, h, sum_by-cons (λ (e : K × X). f e.1) e es)

  -- where only some keys are kept
  pub sum_where : (p : K → Bool) (es : List (K × X)) → total (where_key R p es) ≤ total es
  sum_where p [] = omega arith
  sum_where p (e ∷ es) = kept_or_not (p e.0) e es (where_key R p es) (sum_where p es)

-- one for a yes, none for a no
abbrev pub if_so : Bool → ℕ
if_so b = cond b 1 0

found_not : {X : Type 0} (o : Option X) (n : ℕ) → suc n ≡ cond (is_some o) n (n + 1) → is_some o ≡ false
found_not None n e = refl
found_not (Some x) n e = absurd (omega (arith, e))

module _ {K X : Type 0} {R : K → K → Ordering} (o : IsTotalOrder R) (p : K → Bool) where
  -- how many entries have keys that pass
  abbrev pub count_keys : List (K × X) → ℕ
  count_keys es = sum_by (λ e. if_so (p e.0)) es

  found_below : (k : K) (v : X) (e : K × X) (es : List (K × X)) → T (is_sorted R (e ∷ es)) → R k e.0 ≡ Less → is_some (cond (is_eq Less) (Some e.1) (find R k es)) ≡ false
  found_below k v e es h q =
      let grown = length-put R o k v (e ∷ es) h in
      let here = rw q at grown in
      found_not (find R k es) (suc (length es)) here

  -- after a value was put
  pub count_put : (k : K) (v : X) (es : List (K × X)) → T (is_sorted R es) → count_keys (put R k v es) + cond (is_some (find R k es)) (if_so (p k)) 0 ≡ count_keys es + if_so (p k)
  count_put k v [] h = omega (arith, sum_by-cons (λ (e : K × X). if_so (p e.0)) (k, v) [])
  count_put k v (e ∷ es) h =
      elim (R k e.0) as (λ r. R k e.0 ≡ r → count_keys (by_order r ((k, v) ∷ e ∷ es) ((e.0, v) ∷ es) (e ∷ put R k v es)) + cond (is_some (cond (is_eq r) (Some e.1) (find R k es))) (if_so (p k)) 0 ≡ count_keys (e ∷ es) + if_so (p k)) [
        | Less ↦ λ q.
            let none : cond (is_some (cond (is_eq Less) (Some e.1) (find R k es))) (if_so (p k)) 0 ≡ 0 = ap (λ b. cond b (if_so (p k)) 0) (found_below k v e es h q) in
            omega (arith, sum_by-cons (λ (e : K × X). if_so (p e.0)) (k, v) (e ∷ es), none)
        | Equal ↦ λ q. omega (arith, sum_by-cons (λ (e : K × X). if_so (p e.0)) (e.0, v) es, sum_by-cons (λ (e : K × X). if_so (p e.0)) e es)
        | Greater ↦ λ q. omega (arith, count_put k v es (later _ _ h), sum_by-cons (λ (e : K × X). if_so (p e.0)) e es, sum_by-cons (λ (e : K × X). if_so (p e.0)) e (put R k v es))
      ] refl

  counted_or_not : (b : Bool) (e : K × X) (es kept : List (K × X)) → count_keys kept ≤ count_keys es → count_keys (cond b (e ∷ kept) kept) ≤ count_keys (e ∷ es)
  counted_or_not true e es kept h = omega (arith, h, sum_by-cons (λ (e : K × X). if_so (p e.0)) e es, sum_by-cons (λ (e : K × X). if_so (p e.0)) e kept)
  counted_or_not false e es kept h = omega (arith, h, sum_by-cons (λ (e : K × X). if_so (p e.0)) e es)

  -- where only some keys are kept
  pub count_where : (q : K → Bool) (es : List (K × X)) → count_keys (where_key R q es) ≤ count_keys es
  count_where q [] = omega arith
  count_where q (e ∷ es) = counted_or_not (q e.0) e es (where_key R q es) (count_where q es)
