-- The keys of an object rise in byte order.
use Rattle.std.proofs.Common.{◌≡◌, ℕ, zero, suc, ◌<◌, List, [], ◌∷◌, length, Option, Some, None, option_map, option_and_then, Less, nat_cmp, string_bytes, string_cmp, refl, sym, ap, subst, ◌∙◌, arith}
use Rattle.std.specs.Cmp.Lexicographic.{slice_cmp}
use Rattle.std.specs.List.{AllByRecursion}
use Rattle.std.specs.List.Sorted.{IsStrictlySortedBy}
use Rattle.std.specs.Map as entries
use Rattle.serde_json.specs.Find.{as_str}
use Rattle.serde_json.specs.View.{view, members_view}
use Rattle.ff_policy.specs.Members.{Named, named_of}
use Rattle.ff_policy.specs.Naming.{named_at, AreRising}
use Rattle.ff_policy.proofs.Arrays.{Entry}

list_or : {X : Type 0} → List X → Option (List X) → List X
list_or xs None = xs
list_or xs (Some ys) = ys

-- the first and the rest of what an object gives
record Parts (e : Entry) (es : List Entry) (named : List Named) : Type 0 where
  one : Named
  rest : List Named
  key : one.key ≡ string_bytes e.0
  rest_is : named_of (members_view es) ≡ Some rest
  whole : named ≡ one ∷ rest

parts : (e : Entry) (es : List Entry) (named : List Named) → named_of (members_view (e ∷ es)) ≡ Some named → Parts e es named
unfolding list_or
parts e es named is = go (as_str (view e.1)) (named_of (members_view es)) refl is
  where
    go : (o : Option (List ℕ)) (r : Option (List Named)) → named_of (members_view es) ≡ r
        → option_and_then (λ level. option_map (λ named. record { key = string_bytes e.0; level = level } ∷ named) r) o ≡ Some named → Parts e es named
    go None r rest_is is = absurd (let no : None ≡ Some named = is in cc)
    go (Some level) None rest_is is = absurd (let no : None ≡ Some named = is in cc)
    go (Some level) (Some rest) rest_is is = record { one = record { key = string_bytes e.0; level = level }; rest = rest; key = refl; rest_is = rest_is; whole = sym (ap (list_or []) is) }

-- a key lies before each of these
IsBefore : List ℕ → List Named → Type 0
IsBefore key named = (k : ℕ) → k < length named → slice_cmp nat_cmp key (named_at named k).key ≡ Less

before_more : (key : List ℕ) (one : Named) (rest : List Named) → slice_cmp nat_cmp key one.key ≡ Less → IsBefore key rest → IsBefore key (one ∷ rest)
unfolding IsBefore
before_more key one rest first later zero within = first
before_more key one rest first later (suc k) within = later k (omega arith)

before_from : (key : List ℕ) (es : List Entry) (named : List Named) → AllByRecursion (λ k. slice_cmp nat_cmp key (string_bytes k) ≡ Less) (entries.keys_of es) → named_of (members_view es) ≡ Some named → IsBefore key named
unfolding IsBefore list_or
before_from key [] named all is = subst (IsBefore key) (ap (list_or []) is) (λ k within. absurd (omega arith))
before_from key (e ∷ es) named all is =
    let p = parts e es named is in
    subst (IsBefore key) (sym p.whole) (before_more key p.one p.rest (ap (slice_cmp nat_cmp key) p.key ∙ all.0) (before_from key es p.rest all.1 p.rest_is))

rising_more : (one : Named) (rest : List Named) → IsBefore one.key rest → AreRising rest → AreRising (one ∷ rest)
unfolding IsBefore
rising_more one rest before rising zero zero less within = absurd (omega arith)
rising_more one rest before rising zero (suc k) less within = before k (omega arith)
rising_more one rest before rising (suc j) zero less within = absurd (omega arith)
rising_more one rest before rising (suc j) (suc k) less within = rising j k (omega arith) (omega arith)

-- an object's keys rise
pub named_rising : (es : List Entry) (named : List Named) → IsStrictlySortedBy string_cmp (entries.keys_of es) → named_of (members_view es) ≡ Some named → AreRising named
unfolding IsStrictlySortedBy list_or
named_rising [] named sorted is = subst AreRising (ap (list_or []) is) (λ j k less within. absurd (omega arith))
named_rising (e ∷ es) named sorted is =
    let p = parts e es named is in
    subst AreRising (sym p.whole) (rising_more p.one p.rest (subst (λ (key : List ℕ). IsBefore key p.rest) (sym p.key) (before_from (string_bytes e.0) es p.rest sorted.0 p.rest_is)) (named_rising es p.rest sorted.1 p.rest_is))
