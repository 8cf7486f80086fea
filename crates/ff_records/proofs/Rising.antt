-- Entries in the order of their keys: one more behind them, and what is found among them. Then
-- records that have such entries.
use Rattle.std.proofs.Common.{◌≡◌, ℕ, ◌+◌, ◌<◌, ◌≤◌, Bool, true, false, cond, ◌&&◌, T, Some, List, [], ◌∷◌, ◌++◌, map, take, drop, length, get_or, refl, sym, ap, subst, ◌∙◌, arith}
use Rattle.std.specs.declared.cmp.Ordering.{Ordering}
use Rattle.std.specs.declared.cmp.Ordering.TheVariants.{Less, Equal, Greater}
use Rattle.std.specs.Ordering.{is_eq, is_lt, ordering_reverse}
use Rattle.std.specs.Cmp.{IsTotalOrder, eq_by_cmp_equiv}
use Rattle.std.specs.FinMap as finmap
use Rattle.std.specs.FinMap.Entries.{by_order, below_all}
use Rattle.std.proofs.lemmas.List.{map-append, map_more, drop_more, take-append-drop, length-drop}

first_of : (a b : Bool) → T (a && b) → T a
first_of true b h = tt
first_of false b h = absurd h

second_of : (a b : Bool) → T (a && b) → T b
second_of true b h = h
second_of false b h = absurd h

both_of : (a b : Bool) → T a → T b → T (a && b)
both_of true b g h = h
both_of false b g h = absurd g

less_of : (r : Ordering) → T (is_lt r) → r ≡ Less
less_of Less h = refl
less_of Equal h = absurd h
less_of Greater h = absurd h

not_less : (r : Ordering) → is_lt r ≡ false → T (is_lt r) → ⊥
not_less r e h = subst T e h

-- the images of a list, parted at an item
pub parted : {A B : Type 0} (f : A → B) (xs : List A) (i : ℕ) (x : A) → i < length xs → x ≡ get_or xs i x → map f xs ≡ map f (take i xs) ++ f x ∷ map f (drop (i + 1) xs)
parted f xs i x within is =
    sym (ap (map f) (take-append-drop i xs))
    ∙ map-append f (take i xs) (drop i xs)
    ∙ ap (λ ys. map f (take i xs) ++ map f ys) (drop_more xs i x within)
    ∙ ap (λ y. map f (take i xs) ++ f y ∷ map f (drop (i + 1) xs)) (sym is)

above : {K : Type 0} {R : K → K → Ordering} (o : IsTotalOrder R) (a k : K) → T (is_lt (R a k)) → R k a ≡ Greater
above {R = R} o a k less = o.antisymm k a ∙ ap ordering_reverse (less_of (R a k) less)

-- the key is above all of these
abbrev pub all_before : {K X : Type 0} (R : K → K → Ordering) → K → List (K × X) → Bool
all_before R k [] = true
all_before R k (e ∷ es) = is_lt (R e.0 k) && all_before R k es

module _ {K X : Type 0} {R : K → K → Ordering} (o : IsTotalOrder R) where
  -- an entry of such a key goes to the end
  pub put_last : (k : K) (v : X) (es : List (K × X)) → T (all_before R k es) → finmap.put R k v es ≡ es ++ (k, v) ∷ []
  put_last k v [] h = refl
  put_last k v (e ∷ es) h =
      ap (λ r. by_order r ((k, v) ∷ e ∷ es) ((e.0, v) ∷ es) (e ∷ finmap.put R k v es)) (above o e.0 k (first_of _ _ h))
      ∙ ap (λ rest. e ∷ rest) (put_last k v es (second_of _ _ h))

  -- and is found behind them
  pub found_behind : (k : K) (v : X) (es fs : List (K × X)) → T (all_before R k es) → finmap.find R k (es ++ (k, v) ∷ fs) ≡ Some v
  found_behind k v [] fs h = ap (λ b. cond b (Some v) (finmap.find R k fs)) ((eq_by_cmp_equiv o).refl k)
  found_behind k v (e ∷ es) fs h =
      ap (λ r. cond (is_eq r) (Some e.1) (finmap.find R k (es ++ (k, v) ∷ fs))) (above o e.0 k (first_of _ _ h))
      ∙ found_behind k v es fs (second_of _ _ h)

  below_at : (y : K) (es : List (K × X)) (x : K × X) (fs : List (K × X)) → T (below_all R y (es ++ x ∷ fs)) → T (is_lt (R y x.0))
  below_at y [] x fs h = first_of _ _ h
  below_at y (e ∷ es) x fs h = below_at y es x fs (second_of _ _ h)

  -- in entries that rise, those before one are below it
  pub rising_before : (es : List (K × X)) (x : K × X) (fs : List (K × X)) → T (finmap.is_sorted R (es ++ x ∷ fs)) → T (all_before R x.0 es)
  rising_before [] x fs h = tt
  rising_before (e ∷ es) x fs h = both_of _ _ (below_at e.0 es x fs (first_of _ _ h)) (rising_before es x fs (second_of _ _ h))

  below_further : (x y : K) (es : List (K × X)) → R x y ≡ Less → T (below_all R y es) → T (below_all R x es)
  below_further x y [] less h = tt
  below_further x y (e ∷ es) less h =
      both_of _ _ (subst (λ r. T (is_lt r)) (sym (o.trans x y e.0 less (less_of _ (first_of _ _ h)))) tt) (below_further x y es less (second_of _ _ h))

  -- one more before those that rise
  pub rising_more : (x y : K × X) (es : List (K × X)) → T (is_lt (R x.0 y.0)) → T (finmap.is_sorted R (y ∷ es)) → T (finmap.is_sorted R (x ∷ y ∷ es))
  rising_more x y es less h = both_of _ _ (both_of _ _ less (below_further x.0 y.0 es (less_of _ less) (first_of _ _ h))) h

  -- two that stand next to each other rise
  pub rising_at : (es : List (K × X)) (x y : K × X) (fs : List (K × X)) → T (finmap.is_sorted R (es ++ x ∷ y ∷ fs)) → T (is_lt (R x.0 y.0))
  rising_at [] x y fs h = first_of _ _ (first_of _ _ h)
  rising_at (e ∷ es) x y fs h = rising_at es x y fs (second_of _ _ h)

as_true : (b : Bool) → T b → b ≡ true
as_true true h = refl
as_true false h = absurd h

from_true : (b : Bool) → b ≡ true → T b
from_true b e = subst T (sym e) tt

module _ {K X A : Type 0} {R : K → K → Ordering} (o : IsTotalOrder R) (entry : A → K × X) where
  -- their entries rise
  abbrev pub Rise : List A → Type 0
  Rise rs = finmap.is_sorted R (map entry rs) ≡ true

  -- those of a map do
  pub entries_rise : (m : finmap.FinMap R X) (rs : List A) → finmap.entries m ≡ map entry rs → Rise rs
  entries_rise m rs e = as_true _ (subst (λ es. T (finmap.is_sorted R es)) e (finmap.entries_sorted m))

  one_rises : (rs : List A) → length rs ≤ 1 → Rise rs
  one_rises [] few = refl
  one_rises (r ∷ []) few = refl
  one_rises (r ∷ s ∷ rs) few = absurd (omega (arith, few))

  -- the last one does
  pub last_rises : (rs : List A) (i : ℕ) → i + 1 ≡ length rs → Rise (drop i rs)
  last_rises rs i e = one_rises (drop i rs) (omega (arith, length-drop i rs, e))

  module _ (rs : List A) (i j : ℕ) (next : j ≡ i + 1) (within : j < length rs) (x y : A) (here : x ≡ get_or rs i x) (there : y ≡ get_or rs j y) where
    from_y : drop j rs ≡ y ∷ drop (j + 1) rs
    from_y = drop_more rs j y within ∙ ap (λ r. r ∷ drop (j + 1) rs) (sym there)

    from_x : drop i rs ≡ x ∷ y ∷ drop (j + 1) rs
    from_x =
        drop_more rs i x (omega (arith, next, within))
        ∙ ap (λ r. r ∷ drop (i + 1) rs) (sym here)
        ∙ ap (λ n. x ∷ drop n rs) (sym next)
        ∙ ap (λ (ys : List A). x ∷ ys) from_y

    -- one more before those that rise
    pub more_rise : is_lt (R (entry x).0 (entry y).0) ≡ true → Rise (drop j rs) → Rise (drop i rs)
    more_rise less rise =
        ap (λ (ys : List A). finmap.is_sorted R (map entry ys)) from_x
        ∙ as_true _ (rising_more o (entry x) (entry y) (map entry (drop (j + 1) rs)) (from_true _ less)
        (from_true _ (sym (ap (λ (ys : List A). finmap.is_sorted R (map entry ys)) from_y) ∙ rise)))

    -- two that don't
    pub fall : is_lt (R (entry x).0 (entry y).0) ≡ false → Rise rs → ⊥
    fall not_less rise =
        let whole : map entry rs ≡ map entry (take i rs) ++ entry x ∷ entry y ∷ map entry (drop (j + 1) rs) =
        sym (ap (map entry) (take-append-drop i rs)) ∙ map-append entry (take i rs) (drop i rs) ∙ ap (λ (ys : List A). map entry (take i rs) ++ map entry ys) from_x in
        let less = rising_at o (map entry (take i rs)) (entry x) (entry y) (map entry (drop (j + 1) rs)) (subst (λ es. T (finmap.is_sorted R es)) whole (from_true _ rise)) in
        subst T not_less less

  module _ (rs : List A) (i : ℕ) (x : A) (within : i < length rs) (is : x ≡ get_or rs i x) where
    pub whole : map entry rs ≡ map entry (take i rs) ++ entry x ∷ map entry (drop (i + 1) rs)
    whole = parted entry rs i x within is

    module _ (rise : Rise rs) where
      are_before : T (all_before R (entry x).0 (map entry (take i rs)))
      are_before = rising_before o (map entry (take i rs)) (entry x) (map entry (drop (i + 1) rs)) (subst (λ es. T (finmap.is_sorted R es)) whole (from_true _ rise))

      -- one more is put behind the others
      pub one_more : (m : finmap.FinMap R X) → finmap.entries m ≡ map entry (take i rs) → finmap.entries (finmap.insert m (entry x).0 (entry x).1) ≡ map entry (take (i + 1) rs)
      one_more m so_far =
          finmap.entries-insert o m (entry x).0 (entry x).1
          ∙ ap (finmap.put R (entry x).0 (entry x).1) so_far
          ∙ put_last o (entry x).0 (entry x).1 (map entry (take i rs)) are_before
          ∙ ap (λ y. map entry (take i rs) ++ entry y ∷ []) is
          ∙ sym (map_more entry rs i x within)

      -- and it is found in a map that has all of them
      pub found_there : (v : finmap.FinMap R X) → finmap.entries v ≡ map entry rs → finmap.get v (entry x).0 ≡ Some (entry x).1
      found_there v has =
          finmap.get-entries v (entry x).0
          ∙ ap (finmap.find R (entry x).0) (has ∙ whole)
          ∙ found_behind o (entry x).0 (entry x).1 (map entry (take i rs)) (map entry (drop (i + 1) rs)) are_before
