-- The pairs of a domain, gathered from entries that stand in no order.
use Rattle.std.proofs.Common.{◌≡◌, ℕ, zero, suc, ◌+◌, Bool, true, false, cond, not, ◌&&◌, T, List, [], ◌∷◌, length, map, filter, drop, None, Some, refl, sym, ap, subst, ◌∙◌, arith}
use Rattle.std.specs.declared.cmp.Ordering.{Ordering}
use Rattle.std.specs.declared.cmp.Ordering.TheVariants.{Less, Equal, Greater}
use Rattle.std.specs.Ordering.{nat_cmp, is_eq, is_lt, ordering_then, eq_by_cmp}
use Rattle.std.specs.Cmp.{tied_itself}
use Rattle.std.specs.Cmp.Lexicographic.{slice_cmp, nat_list_cmp_total}
use Rattle.std.specs.List.{insert, position_or_len, slice_get}
use Rattle.std.specs.Map.{keys_of}
use Rattle.std.specs.FinMap as finmap
use Rattle.std.specs.FinMap.Entries.{by_order, below_all}
use Rattle.std.proofs.lemmas.Option.{get_or_from_slice_get, slice_get_within}
use Rattle.std.proofs.lemmas.List.{drop_all, drop_more}
use Rattle.std.proofs.lemmas.Map.Keys.{IsDistinct-tail}
use Rattle.std.proofs.lemmas.Slice.Eq.{bytes_eq-Decides}
use Rattle.ff_value.specs.declared.output.Pair.{Pair}
use Rattle.ff_machine.specs.Net.{cookie_cmp, pairs_of}
use Rattle.ff_machine.proofs.Maps.{no_pairs}
use Rattle.ff_net.specs.Cookies.{is_of, is_above}
use Rattle.ff_net.specs.Entries.{AreApart}
use Rattle.ff_net.proofs.Cookies.{Entry, cookie_total}
use Rattle.ff_net.proofs.Finding.{new_key}

abbrev pub pair_of : Entry → Pair
pair_of e = record { key = e.0.1; value = e.1 }

-- the pairs with one more in its place
abbrev pub in_order : Pair → List Pair → List Pair
in_order p ps = insert ps (position_or_len (is_above p.key) ps) p

before : (p q : Pair) (ps : List Pair) → is_above p.key q ≡ true → in_order p (q ∷ ps) ≡ p ∷ q ∷ ps
before p q ps above = rw above refl

further_in : (n : ℕ) (p q : Pair) (ps : List Pair) → insert (q ∷ ps) (1 + n) p ≡ q ∷ insert ps n p
further_in n p q ps = ap (λ k. insert (q ∷ ps) k p) {x = 1 + n} {y = suc n} (omega arith)

after : (p q : Pair) (ps : List Pair) → is_above p.key q ≡ false → in_order p (q ∷ ps) ≡ q ∷ in_order p ps
after p q ps above =
    ap (λ b. insert (q ∷ ps) (cond (not b) (1 + position_or_len (is_above p.key) ps) 0) p) above
    ∙ further_in (position_or_len (is_above p.key) ps) p q ps

second_of : (a b : Bool) → T (a && b) → T b
second_of true b h = h
second_of false b h = absurd h

first_of_both : (a b : Bool) → T (a && b) → T a
first_of_both true b h = tt
first_of_both false b h = absurd h

both_of : (a b : Bool) → T a → T b → T (a && b)
both_of true b g h = h
both_of false b g h = absurd g

is_less : (r : Ordering) → T (is_lt r) → r ≡ Less
is_less Less h = refl
is_less Equal h = absurd h
is_less Greater h = absurd h

-- what is below a key is below all that the key is below
below_further : (x y : List ℕ × List ℕ) (es : List Entry) → cookie_cmp x y ≡ Less → T (below_all cookie_cmp y es) → T (below_all cookie_cmp x es)
below_further x y [] less h = tt
below_further x y (e ∷ es) less h =
    both_of _ _ (subst (λ r. T (is_lt r)) (sym (cookie_total.trans x y e.0 less (is_less _ (first_of_both _ _ h)))) tt) (below_further x y es less (second_of _ _ h))

-- cookies of one domain stand in the order of their keys
by_keys : (domain : List ℕ) (x e : Entry) → is_of domain x ≡ true → is_of domain e ≡ true → cookie_cmp x.0 e.0 ≡ slice_cmp nat_cmp x.0.1 e.0.1
by_keys domain x e here there =
    let same : e.0.0 ≡ x.0.0 = (bytes_eq-Decides e.0.0 domain).0 there ∙ sym ((bytes_eq-Decides x.0.0 domain).0 here) in
    ap (λ d. ordering_then (slice_cmp nat_cmp x.0.0 d) (slice_cmp nat_cmp x.0.1 e.0.1)) same
    ∙ ap (λ r. ordering_then r (slice_cmp nat_cmp x.0.1 e.0.1)) (tied_itself nat_list_cmp_total x.0.0)

module _ (domain : List ℕ) where
  abbrev pairs_in : List Entry → List Pair
  pairs_in es = map pair_of (filter (is_of domain) es)

  kept : (e : Entry) (es : List Entry) → is_of domain e ≡ true → pairs_in (e ∷ es) ≡ pair_of e ∷ pairs_in es
  kept e es is = rw is refl

  skipped : (e : Entry) (es : List Entry) → is_of domain e ≡ false → pairs_in (e ∷ es) ≡ pairs_in es
  skipped e es is = rw is refl

  -- an entry of another domain makes no difference
  put_elsewhere : (x : Entry) (es : List Entry) → is_of domain x ≡ false → finmap.find cookie_cmp x.0 es ≡ None → pairs_in (finmap.put cookie_cmp x.0 x.1 es) ≡ pairs_in es
  put_elsewhere x [] other none = skipped x [] other
  put_elsewhere x (e ∷ es) other none =
      elim (cookie_cmp x.0 e.0) as (λ r. cond (is_eq r) (Some e.1) (finmap.find cookie_cmp x.0 es) ≡ None → pairs_in (by_order r (x ∷ e ∷ es) ((e.0, x.1) ∷ es) (e ∷ finmap.put cookie_cmp x.0 x.1 es)) ≡ pairs_in (e ∷ es)) [
        | Less ↦ λ n. skipped x (e ∷ es) other
        | Equal ↦ λ n. cc
        | Greater ↦ λ n. after_first (put_elsewhere x es other n)
      ] none
    where
      after_first : pairs_in (finmap.put cookie_cmp x.0 x.1 es) ≡ pairs_in es → pairs_in (e ∷ finmap.put cookie_cmp x.0 x.1 es) ≡ pairs_in (e ∷ es)
      after_first same =
          elim (is_of domain e) as (λ b. is_of domain e ≡ b → pairs_in (e ∷ finmap.put cookie_cmp x.0 x.1 es) ≡ pairs_in (e ∷ es)) [
            | true ↦ λ there. kept e _ there ∙ ap (λ ps. pair_of e ∷ ps) same ∙ sym (kept e es there)
            | false ↦ λ elsewhere. skipped e _ elsewhere ∙ same ∙ sym (skipped e es elsewhere)
          ] refl

  -- an entry below all others goes to the front
  put_front : (x : Entry) (es : List Entry) → is_of domain x ≡ true → T (below_all cookie_cmp x.0 es) → in_order (pair_of x) (pairs_in es) ≡ pair_of x ∷ pairs_in es
  put_front x [] here below = refl
  put_front x (e ∷ es) here below =
      elim (is_of domain e) as (λ b. is_of domain e ≡ b → in_order (pair_of x) (pairs_in (e ∷ es)) ≡ pair_of x ∷ pairs_in (e ∷ es)) [
        | true ↦ λ there. rw (kept e es there) (before (pair_of x) (pair_of e) (pairs_in es) (ap is_lt (sym (by_keys domain x e here there) ∙ is_less _ (first_of_both _ _ below))))
        | false ↦ λ other. rw (skipped e es other) (put_front x es here (second_of _ _ below))
      ] refl

  -- an entry of the domain gives a pair more, in its place
  put_here : (x : Entry) (es : List Entry) → is_of domain x ≡ true → T (finmap.is_sorted cookie_cmp es) → finmap.find cookie_cmp x.0 es ≡ None → pairs_in (finmap.put cookie_cmp x.0 x.1 es) ≡ in_order (pair_of x) (pairs_in es)
  put_here x [] here sorted none = kept x [] here
  put_here x (e ∷ es) here sorted none =
      elim (cookie_cmp x.0 e.0) as (λ r. cookie_cmp x.0 e.0 ≡ r → cond (is_eq r) (Some e.1) (finmap.find cookie_cmp x.0 es) ≡ None → pairs_in (by_order r (x ∷ e ∷ es) ((e.0, x.1) ∷ es) (e ∷ finmap.put cookie_cmp x.0 x.1 es)) ≡ in_order (pair_of x) (pairs_in (e ∷ es))) [
        | Less ↦ λ less n. kept x (e ∷ es) here ∙ sym (put_front x (e ∷ es) here (both_of _ _ (subst (λ r. T (is_lt r)) (sym less) tt) (below_further x.0 e.0 es less (first_of_both _ _ sorted))))
        | Equal ↦ λ same n. cc
        | Greater ↦ λ greater n. further greater (put_here x es here (second_of _ _ sorted) n)
      ] refl none
    where
      further : cookie_cmp x.0 e.0 ≡ Greater → pairs_in (finmap.put cookie_cmp x.0 x.1 es) ≡ in_order (pair_of x) (pairs_in es) → pairs_in (e ∷ finmap.put cookie_cmp x.0 x.1 es) ≡ in_order (pair_of x) (pairs_in (e ∷ es))
      further greater rest =
          elim (is_of domain e) as (λ b. is_of domain e ≡ b → pairs_in (e ∷ finmap.put cookie_cmp x.0 x.1 es) ≡ in_order (pair_of x) (pairs_in (e ∷ es))) [
            | true ↦ λ there. kept e _ there ∙ ap (λ ps. pair_of e ∷ ps) rest ∙ sym (rw (kept e es there) (after (pair_of x) (pair_of e) (pairs_in es) (ap is_lt (sym (by_keys domain x e here there) ∙ greater))))
            | false ↦ λ other. skipped e _ other ∙ rest ∙ sym (ap (in_order (pair_of x)) (skipped e es other))
          ] refl

  -- rows from a place on stay apart
  apart_from : (i : ℕ) (rows : List Entry) → AreApart cookie_cmp rows → AreApart cookie_cmp (drop i rows)
  apart_from zero rows apart = apart
  apart_from (suc i) [] apart = apart
  apart_from (suc i) (x ∷ rows) apart = apart_from i rows (IsDistinct-tail (eq_by_cmp cookie_cmp) x.0 (keys_of rows) apart)

  -- without rows there are no pairs
  pub gathered_none : (rows : List Entry) (i : ℕ) → i ≡ length rows → [] ≡ pairs_of (finmap.from_entries (drop i rows)) domain
  gathered_none rows i e = sym (ap (λ (es : List Entry). pairs_of (finmap.from_entries es) domain) (drop_all i rows (omega arith)) ∙ no_pairs domain)

  module _ (rows : List Entry) (apart : AreApart cookie_cmp rows) (i j : ℕ) (next : i + 1 ≡ j) (x : Entry) (is : slice_get rows i ≡ Some x) where
    rest : List Entry
    rest = drop j rows

    one_more : drop i rows ≡ x ∷ rest
    unfolding rest
    one_more =
        drop_more rows i x (slice_get_within rows i x is)
        ∙ ap (λ y. y ∷ drop (i + 1) rows) (get_or_from_slice_get rows i x x is)
        ∙ ap (λ k. x ∷ drop k rows) next

    new : finmap.find cookie_cmp x.0 (finmap.entries (finmap.from_entries {R = cookie_cmp} rest)) ≡ None
    new = sym (finmap.get-entries (finmap.from_entries {R = cookie_cmp} rest) x.0) ∙ new_key cookie_total x rest (subst (AreApart cookie_cmp) one_more (apart_from i rows apart))

    with_x : pairs_of (finmap.from_entries (drop i rows)) domain ≡ pairs_in (finmap.put cookie_cmp x.0 x.1 (finmap.entries (finmap.from_entries {R = cookie_cmp} rest)))
    with_x =
        ap (λ (es : List Entry). pairs_of (finmap.from_entries es) domain) one_more
        ∙ ap pairs_in (finmap.entries-insert cookie_total (finmap.from_entries rest) x.0 x.1)

    -- one row more, of the domain or of another
    pub gathered_here : is_of domain x ≡ true → pairs_of (finmap.from_entries (drop i rows)) domain ≡ in_order (pair_of x) (pairs_of (finmap.from_entries (drop j rows)) domain)
    unfolding rest
    gathered_here here = with_x ∙ put_here x (finmap.entries (finmap.from_entries rest)) here (finmap.entries_sorted (finmap.from_entries rest)) new

    pub gathered_elsewhere : is_of domain x ≡ false → pairs_of (finmap.from_entries (drop i rows)) domain ≡ pairs_of (finmap.from_entries (drop j rows)) domain
    unfolding rest
    gathered_elsewhere other = with_x ∙ put_elsewhere x (finmap.entries (finmap.from_entries rest)) other new
