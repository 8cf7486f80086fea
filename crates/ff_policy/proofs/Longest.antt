-- The longest key that covers a domain is the longest.
use Rattle.std.proofs.Common.{◌≡◌, ◌≢◌, ℕ, zero, suc, ◌<◌, ◌≤◌, List, [], ◌∷◌, length, Option, Some, None, Bool, true, false, nat_le, if◌then◌else◌, refl, sym, ap, subst, ◌∙◌, arith}
use Rattle.std.proofs.lemmas.Bool.{true≢false}
use Rattle.std.proofs.lemmas.Bool.Decides.{nat_tests}
use Rattle.ff_policy.specs.Assignment.{Key, key_at, covers, longer, longest, IsLongest}

key_or : Key → Option Key → Key
key_or key None = key
key_or key (Some other) = other

some_same : (a b : Key) → Some a ≡ Some b → a ≡ b
unfolding key_or
some_same a b e = ap (key_or a) e

module _ (domain : List ℕ) where
  -- where there is no longest, no key covers the domain
  pub none_covers : (keys : List Key) → longest domain keys ≡ None → (k : ℕ) → k < length keys → covers (key_at keys k).key domain ≢ true
  none_covers [] none k within = absurd (omega arith)
  none_covers (first ∷ keys) none k within = go (covers first.key domain) refl (none_covers keys) k within
    where
      go : (b : Bool) → covers first.key domain ≡ b → (longest domain keys ≡ None → (k : ℕ) → k < length keys → covers (key_at keys k).key domain ≢ true)
          → (k : ℕ) → k < length (first ∷ keys) → covers (key_at (first ∷ keys) k).key domain ≢ true
      go true is rest k within = absurd (let no : Some (longer first (longest domain keys)) ≡ None = sym (ap (λ b. if b then Some (longer first (longest domain keys)) else longest domain keys) is) ∙ none in cc)
      go false is rest zero within = λ covered. true≢false (sym covered ∙ is)
      go false is rest (suc k) within = rest (sym (ap (λ b. if b then Some (longer first (longest domain keys)) else longest domain keys) is) ∙ none) k (omega arith)

  alone : (first : Key) (keys : List Key) → ((k : ℕ) → k < length keys → covers (key_at keys k).key domain ≢ true)
      → (k : ℕ) → k < length (first ∷ keys) → covers (key_at (first ∷ keys) k).key domain ≡ true → length (key_at (first ∷ keys) k).key ≤ length first.key
  alone first keys none zero within also = omega arith
  alone first keys none (suc k) within also = absurd (none k (omega arith) also)

  first_alone : (first : Key) (keys : List Key) → covers first.key domain ≡ true → ((k : ℕ) → k < length keys → covers (key_at keys k).key domain ≢ true) → IsLongest domain (first ∷ keys) first
  first_alone first keys covered none = record { place = 0; within = omega arith; is = refl; covers_it = covered; longest = alone first keys none }

  longer_than_rest : (first key : Key) (keys : List Key) → length key.key ≤ length first.key → IsLongest domain keys key
      → (k : ℕ) → k < length (first ∷ keys) → covers (key_at (first ∷ keys) k).key domain ≡ true → length (key_at (first ∷ keys) k).key ≤ length first.key
  longer_than_rest first key keys short rest zero within also = omega arith
  longer_than_rest first key keys short rest (suc k) within also =
      let less : length (key_at keys k).key ≤ length key.key = rest.longest k (omega arith) also in omega (arith, less, short)

  first_longer : (first key : Key) (keys : List Key) → covers first.key domain ≡ true → length key.key ≤ length first.key → IsLongest domain keys key → IsLongest domain (first ∷ keys) first
  first_longer first key keys covered short rest = record { place = 0; within = omega arith; is = refl; covers_it = covered; longest = longer_than_rest first key keys short rest }

  longest_later : (first key : Key) (keys : List Key) → (covers first.key domain ≡ true → length first.key ≤ length key.key) → IsLongest domain keys key
      → (k : ℕ) → k < length (first ∷ keys) → covers (key_at (first ∷ keys) k).key domain ≡ true → length (key_at (first ∷ keys) k).key ≤ length key.key
  longest_later first key keys short rest zero within also = short also
  longest_later first key keys short rest (suc k) within also = rest.longest k (omega arith) also

  later : (first key : Key) (keys : List Key) → (covers first.key domain ≡ true → length first.key ≤ length key.key) → IsLongest domain keys key → IsLongest domain (first ∷ keys) key
  later first key keys short rest = record { place = suc rest.place; within = omega (arith, rest.within); is = rest.is; covers_it = rest.covers_it; longest = longest_later first key keys short rest }

  -- the longest key covers the domain, and each that does is at most as long
  pub longest_is : (keys : List Key) (key : Key) → longest domain keys ≡ Some key → IsLongest domain keys key
  longest_is [] key is = absurd (let no : None ≡ Some key = is in cc)
  longest_is (first ∷ keys) key is = go (covers first.key domain) refl (longest domain keys) refl (longest_is keys) is
    where
      choose : (other : Key) (b : Bool) → nat_le (length other.key) (length first.key) ≡ b → covers first.key domain ≡ true → IsLongest domain keys other → (if b then first else other) ≡ key → IsLongest domain (first ∷ keys) key
      choose other true short covered rest same = subst (IsLongest domain (first ∷ keys)) same (first_longer first other keys covered (grind (arith, nat_tests)) rest)
      choose other false long covered rest same = subst (IsLongest domain (first ∷ keys)) same (later first other keys (λ _. grind (arith, nat_tests)) rest)

      covered_with : covers first.key domain ≡ true → (rest : Option Key) → longest domain keys ≡ rest → ((key : Key) → longest domain keys ≡ Some key → IsLongest domain keys key) → Some (longer first rest) ≡ Some key → IsLongest domain (first ∷ keys) key
      covered_with covered None is_rest recur same = subst (IsLongest domain (first ∷ keys)) (some_same first key same) (first_alone first keys covered (none_covers keys is_rest))
      covered_with covered (Some other) is_rest recur same = choose other (nat_le (length other.key) (length first.key)) refl covered (recur other is_rest) (some_same _ key same)

      go : (b : Bool) → covers first.key domain ≡ b → (rest : Option Key) → longest domain keys ≡ rest → ((key : Key) → longest domain keys ≡ Some key → IsLongest domain keys key)
          → longest domain (first ∷ keys) ≡ Some key → IsLongest domain (first ∷ keys) key
      go true covered rest is_rest recur all =
          covered_with covered rest is_rest recur (sym (ap (λ r. Some (longer first r)) is_rest) ∙ sym (ap (λ b. if b then Some (longer first (longest domain keys)) else longest domain keys) covered) ∙ all)
      go false not_covered rest is_rest recur all =
          later first key keys (λ covered. absurd (true≢false (sym covered ∙ not_covered)))
          (recur key (sym (ap (λ b. if b then Some (longer first (longest domain keys)) else longest domain keys) not_covered) ∙ all))
