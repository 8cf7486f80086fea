-- What a finite map has whose entries stand in no order, with no two of one key, and what one
-- change of the entries does to it.
use Rattle.std.proofs.Common.{◌≡◌, ℕ, suc, ◌+◌, ◌<◌, Bool, true, false, cond, Option, Some, None, is_some, List, [], ◌∷◌, ◌++◌, length, get_or, set, refl, sym, ap, subst, ◌∙◌, sum_by, arith}
use Rattle.std.specs.declared.cmp.Ordering.{Ordering}
use Rattle.std.specs.declared.cmp.Ordering.TheVariants.{Less, Equal, Greater}
use Rattle.std.specs.Ordering.{eq_by_cmp, is_eq}
use Rattle.std.specs.Cmp.{IsTotalOrder, eq_by_cmp_equiv}
use Rattle.std.specs.List.{slice_get, swap_remove, remove, Contains, IsDistinct, position_or_len, find}
use Rattle.std.specs.List.Sorted.{IsPermutation}
use Rattle.std.specs.Map.{keys_of, lookup}
use Rattle.std.specs.Option.{option_map}
use Rattle.std.specs.FinMap as finmap
use Rattle.std.specs.FinMap.Entries.{by_order, find_tied, is_some-find}
use Rattle.std.proofs.lemmas.Option.{slice_get_within, slice_get-get_or}
use Rattle.std.proofs.lemmas.List.{map_push, length-set, take-set, drop-set-lt, get_or-set_same}
use Rattle.std.proofs.lemmas.List.Folds.{find_at}
use Rattle.std.proofs.lemmas.List.Sums.{sum_by-cons}
use Rattle.std.proofs.lemmas.List.Sorted.{IsPermutation-map, IsPermutation-sym, IsPermutation-swap_remove, IsPermutation-remove, Contains-permutation}
use Rattle.std.proofs.lemmas.Map.{lookup-none}
use Rattle.std.proofs.lemmas.Map.Entries.{place_from_lookup, lookup_from_place, none_past_head}
use Rattle.std.proofs.lemmas.Map.Keys.{IsDistinct-tail, IsDistinct-push, IsDistinct-IsPermutation}
use Rattle.ff_machine.proofs.Maps.{entries-empty}
use Rattle.ff_net.specs.Entries.{AreApart}

is_equal : (r : Ordering) → is_eq r ≡ true → r ≡ Equal
is_equal Less e = cc
is_equal Equal e = refl
is_equal Greater e = cc

same_answer : {X : Type 0} (a b : Option X) → ((v : X) → a ≡ Some v → b ≡ Some v) → ((v : X) → b ≡ Some v → a ≡ Some v) → a ≡ b
same_answer None None f g = refl
same_answer None (Some v) f g = g v refl
same_answer (Some v) b f g = sym (f v refl)

-- a test that is asked twice
asked_twice : {X : Type 0} (b c : Bool) (x : X) (y z : Option X) → b ≡ c → cond b (Some x) y ≡ cond b (Some x) (cond c z y)
asked_twice true c x y z e = refl
asked_twice false true x y z e = cc
asked_twice false false x y z e = refl

left_out : {X : Type 0} (b c : Bool) (x y : Option X) → b ≡ c → (b ≡ true → y ≡ None) → y ≡ cond b None (cond c x y)
left_out true c x y e h = h refl
left_out false true x y e h = cc
left_out false false x y e h = refl

module _ {K X : Type 0} {R : K → K → Ordering} (o : IsTotalOrder R) where
  looked_up : (q : K) (es : List (K × X)) → finmap.find R q es ≡ lookup (eq_by_cmp R q) es
  looked_up q [] = refl
  looked_up q (e ∷ es) = ap (cond (eq_by_cmp R q e.0) (Some e.1)) (looked_up q es)

  -- what is found is the value of the first entry that a test finds
  found_first : (p : K × X → Bool) (q : K) → ((e : K × X) → p e ≡ eq_by_cmp R q e.0) → (es : List (K × X)) → finmap.find R q es ≡ option_map (λ e. e.1) (find p es)
  found_first p q same [] = refl
  found_first p q same (e ∷ es) =
      elim (p e) as (λ b. eq_by_cmp R q e.0 ≡ b → finmap.find R q (e ∷ es) ≡ option_map (λ f. f.1) (cond b (Some e) (find p es))) [
        | true ↦ λ t. ap (λ b. cond b (Some e.1) (finmap.find R q es)) t
        | false ↦ λ t. ap (λ b. cond b (Some e.1) (finmap.find R q es)) t ∙ found_first p q same es
      ] (sym (same e))

  -- the value of the entry at the first place where a test passes
  pub found : (p : K × X → Bool) (q : K) → ((e : K × X) → p e ≡ eq_by_cmp R q e.0) → (es : List (K × X)) → finmap.get (finmap.from_entries {R = R} es) q ≡ option_map (λ e. e.1) (slice_get es (position_or_len p es))
  found p q same es = finmap.get-from_entries o es q ∙ found_first p q same es ∙ ap (option_map (λ e. e.1)) (find_at p es)

  tied : (q k : K) (es : List (K × X)) → eq_by_cmp R q k ≡ true → finmap.find R k es ≡ finmap.find R q es
  tied q k es e = find_tied R o q k (is_equal _ e) es

  -- entries stay apart in another order
  apart_moved : (es fs : List (K × X)) → IsPermutation es fs → AreApart R es → AreApart R fs
  apart_moved es fs moved apart = IsDistinct-IsPermutation (eq_by_cmp R) (eq_by_cmp_equiv o).symm (keys_of es) (keys_of fs) (IsPermutation-map (λ e. e.0) es fs moved) apart

  found_among : (es fs : List (K × X)) → AreApart R fs → ((e : K × X) → Contains es e → Contains fs e) → (q : K) (v : X) → finmap.find R q es ≡ Some v → finmap.find R q fs ≡ Some v
  found_among es fs apart all q v is =
      let p = place_from_lookup (eq_by_cmp R q) es v (sym (looked_up q es) ∙ is) in
      let within = slice_get_within es p.0 (p.1, v) p.2 in
      let here : get_or es p.0 (p.1, v) ≡ (p.1, v) = cc (slice_get-get_or es p.0 (p.1, v) within, p.2) in
      let there = all (p.1, v) (p.0, within, here) in
      let at : slice_get fs there.0 ≡ Some (p.1, v) = slice_get-get_or fs there.0 (p.1, v) there.1 ∙ ap Some there.2 in
      sym (tied q p.1 fs p.3) ∙ looked_up p.1 fs ∙ lookup_from_place (eq_by_cmp_equiv o) fs there.0 p.1 v apart at

  -- the order of entries that are apart makes no difference
  found_moved : (es fs : List (K × X)) → IsPermutation es fs → AreApart R es → (q : K) → finmap.find R q es ≡ finmap.find R q fs
  found_moved es fs moved apart q =
      same_answer _ _
      (found_among es fs (apart_moved es fs moved apart) (λ e. Contains-permutation es fs e moved) q)
      (found_among fs es apart (λ e. Contains-permutation fs es e (IsPermutation-sym es fs moved)) q)

  -- no later entry has the key of the first
  none_later : (q : K) (e : K × X) (es : List (K × X)) → AreApart R (e ∷ es) → eq_by_cmp R q e.0 ≡ true → finmap.find R q es ≡ None
  none_later q e es apart same = looked_up q es ∙ lookup-none (eq_by_cmp R q) es (none_past_head (eq_by_cmp_equiv o) q e es apart same)

  -- Counts.

  sum_put : (f : K × X → ℕ) (k : K) (v : X) (es : List (K × X)) → finmap.find R k es ≡ None → sum_by f (finmap.put R k v es) ≡ f (k, v) + sum_by f es
  sum_put f k v [] none = sum_by-cons f (k, v) []
  sum_put f k v (e ∷ es) none =
      elim (R k e.0) as (λ r. cond (is_eq r) (Some e.1) (finmap.find R k es) ≡ None → sum_by f (by_order r ((k, v) ∷ e ∷ es) ((e.0, v) ∷ es) (e ∷ finmap.put R k v es)) ≡ f (k, v) + sum_by f (e ∷ es)) [
        | Less ↦ λ n. sum_by-cons f (k, v) (e ∷ es)
        | Equal ↦ λ n. cc
        | Greater ↦ λ n. omega (arith, sum_by-cons f e (finmap.put R k v es), sum_by-cons f e es, sum_put f k v es n)
      ] none

  -- a key that no entry has is new to the map
  pub new_key : (e : K × X) (es : List (K × X)) → AreApart R (e ∷ es) → finmap.get (finmap.from_entries {R = R} es) e.0 ≡ None
  new_key e es apart = finmap.get-from_entries o es e.0 ∙ none_later e.0 e es apart ((eq_by_cmp_equiv o).refl e.0)

  -- a sum over the map's entries
  pub sum_entries : (f : K × X → ℕ) (es : List (K × X)) → AreApart R es → sum_by f (finmap.entries (finmap.from_entries {R = R} es)) ≡ sum_by f es
  sum_entries f [] apart = ap (sum_by f) (entries-empty R)
  sum_entries f (e ∷ es) apart =
      let m = finmap.from_entries {R = R} es in
      ap (sum_by f) (finmap.entries-insert o m e.0 e.1)
      ∙ sum_put f e.0 e.1 (finmap.entries m) (sym (finmap.get-entries m e.0) ∙ new_key e es apart)
      ∙ ap (λ n. f e + n) (sum_entries f es (IsDistinct-tail (eq_by_cmp R) e.0 (keys_of es) apart))
      ∙ sym (sum_by-cons f e es)

  -- how many entries the map has
  pub len_entries : (es : List (K × X)) → AreApart R es → finmap.len (finmap.from_entries {R = R} es) ≡ length es
  len_entries [] apart = finmap.len-empty R X
  len_entries (e ∷ es) apart =
      let m = finmap.from_entries {R = R} es in
      let rest = len_entries es (IsDistinct-tail (eq_by_cmp R) e.0 (keys_of es) apart) in
      let more : finmap.len (finmap.insert m e.0 e.1) ≡ finmap.len m + 1 = finmap.len-insert o m e.0 e.1 ∙ ap (λ (v : Option X). cond (is_some v) (finmap.len m) (finmap.len m + 1)) (new_key e es apart) in
      omega (arith, more, rest)

  -- Changes.

  kept_out : (b : Bool) (x : Option X) → (b ≡ true → x ≡ None) → x ≡ cond b None x
  kept_out true x h = h refl
  kept_out false x h = refl

  -- to take out a key that the map hasn't is to change nothing
  pub remove_none : finmap.IsAntisymmetric R → (m : finmap.FinMap R X) (k : K) → finmap.get m k ≡ None → m ≡ finmap.remove m k
  remove_none exact m k none = finmap.same_map o exact _ _ (λ q.
      kept_out (eq_by_cmp R q k) (finmap.get m q) (λ t. sym (finmap.get_tied o m q k (is_equal _ t)) ∙ none)
      ∙ sym (finmap.get-remove o m k q))

  module _ (exact : finmap.IsAntisymmetric R) (es : List (K × X)) (apart : AreApart R es) where
    -- an entry whose key is new goes to the end
    pub apart_pushed : (k : K) (v : X) → finmap.get (finmap.from_entries {R = R} es) k ≡ None → AreApart R (es ++ (k, v) ∷ [])
    apart_pushed k v none =
        subst (IsDistinct (eq_by_cmp R)) (sym (map_push (λ e. e.0) es (k, v)))
        (IsDistinct-push (eq_by_cmp_equiv o) (keys_of es) k apart (sym (is_some-find R k es) ∙ ap is_some (sym (finmap.get-from_entries o es k) ∙ none)))

    pub map_pushed : (k : K) (v : X) → finmap.get (finmap.from_entries {R = R} es) k ≡ None → finmap.from_entries {R = R} (es ++ (k, v) ∷ []) ≡ finmap.insert (finmap.from_entries es) k v
    map_pushed k v none = finmap.from_entries_push o exact es k v (sym (finmap.get-from_entries o es k) ∙ none)

    module _ (i : ℕ) (x : K × X) (within : i < length es) (is : x ≡ get_or es i x) where
      -- the entry at a place is taken out, and the last one put into its place
      moved_out : IsPermutation es (x ∷ swap_remove es i x)
      moved_out = IsPermutation-swap_remove es i x within is

      pub apart_removed : AreApart R (swap_remove es i x)
      apart_removed = IsDistinct-tail (eq_by_cmp R) x.0 _ (apart_moved _ _ moved_out apart)

      pub map_removed : (k : K) → eq_by_cmp R k x.0 ≡ true → finmap.from_entries {R = R} (swap_remove es i x) ≡ finmap.remove (finmap.from_entries es) k
      map_removed k same =
          let rest = swap_remove es i x in
          let with_x = apart_moved _ _ moved_out apart in
          finmap.same_map o exact _ _ (λ q.
          let k_is : eq_by_cmp R q k ≡ eq_by_cmp R q x.0 = (eq_by_cmp_equiv o).symm q k ∙ (eq_by_cmp_equiv o).congr k x.0 q same ∙ (eq_by_cmp_equiv o).symm x.0 q in
          finmap.get-from_entries o rest q
          ∙ left_out (eq_by_cmp R q k) (eq_by_cmp R q x.0) (Some x.1) (finmap.find R q rest) k_is (λ t. none_later q x rest with_x (sym k_is ∙ t))
          ∙ ap (cond (eq_by_cmp R q k) None) (sym (found_moved _ _ moved_out apart q) ∙ sym (finmap.get-from_entries o es q))
          ∙ sym (finmap.get-remove o (finmap.from_entries es) k q))

      -- an entry of the same key is written over it
      module _ (k : K) (v : X) (same : eq_by_cmp R k x.0 ≡ true) where
        key_is : k ≡ x.0
        key_is = exact k x.0 (is_equal _ same)

        moved_old : IsPermutation es (x ∷ remove es i)
        moved_old = IsPermutation-remove es i x within is

        new : List (K × X)
        new = set es i (k, v)

        moved_new : IsPermutation new ((k, v) ∷ remove es i)
        unfolding new
        moved_new =
            let inside : i < length new = rw length-set within in
            let left : remove new i ≡ remove es i = cc (take-set es i (k, v), drop-set-lt (suc i) es i (k, v) (omega arith)) in
            subst (λ l. IsPermutation new ((k, v) ∷ l)) left (IsPermutation-remove new i (k, v) inside (sym (get_or-set_same es i (k, v) (k, v) within)))

        pub apart_set : AreApart R (set es i (k, v))
        unfolding new
        apart_set = apart_moved ((k, v) ∷ remove es i) new (IsPermutation-sym _ _ moved_new) (subst (λ (key : K). IsDistinct (eq_by_cmp R) (key ∷ keys_of (remove es i))) (sym key_is) (apart_moved es (x ∷ remove es i) moved_old apart))

        pub map_set : finmap.from_entries {R = R} (set es i (k, v)) ≡ finmap.insert (finmap.from_entries es) k v
        unfolding new
        map_set =
            let rest = remove es i in
            finmap.same_map o exact _ _ (λ q.
            finmap.get-from_entries o new q
            ∙ found_moved new ((k, v) ∷ rest) moved_new apart_set q
            ∙ asked_twice (eq_by_cmp R q k) (eq_by_cmp R q x.0) v (finmap.find R q rest) (Some x.1) (ap (eq_by_cmp R q) key_is)
            ∙ ap (cond (eq_by_cmp R q k) (Some v)) (sym (found_moved es (x ∷ rest) moved_old apart q) ∙ sym (finmap.get-from_entries o es q))
            ∙ sym (finmap.get-insert o (finmap.from_entries es) k v q))
