-- What holds of each item of a list, item by item.
use Rattle.std.proofs.Common.{◌≡◌, ◌≢◌, ℕ, zero, suc, ◌+◌, ◌<◌, Bool, true, false, T, Result, Ok, Err, cond, not, ◌||◌, bytes_eq, List, [], ◌∷◌, take, drop, length, get_or, refl, sym, subst, ap, ◌∙◌, arith}
use Rattle.std.specs.Bool.{one_answer}
use Rattle.std.specs.List.{AllByRecursion, list_any}
use Rattle.std.specs.Ordering.{is_eq, nat_cmp}
use Rattle.std.specs.Cmp.Lexicographic.{slice_cmp, texts_ties}
use Rattle.std.specs.BTreeSet.{BTreeSet, contains, Updates}
use Rattle.std.proofs.lemmas.List.{drop_all, drop_more}
use Rattle.std.proofs.lemmas.Slice.Eq.{bytes_eq-Decides}
use Rattle.std.proofs.lemmas.List.Elements.{All-from_recursion, recursion_from_All, All-more, All-get_or}
use Rattle.ff_tree.specs.Spelled.{Differ}
use Rattle.ff_value.specs.Spelled.{IsWellSpelledCode, TakesOne}
use Rattle.ff_value.specs.declared.value.Code.{Code}
use Rattle.ff_spelling.specs.Told.{Tells}

-- one item more
pub each_more : {X : Type 0} (P : X → Type 0) (xs : List X) (i : ℕ) (x : X) → i < length xs → x ≡ get_or xs i x → AllByRecursion P (take i xs) → P x → AllByRecursion P (take (i + 1) xs)
each_more P xs i x within is so_far p =
    recursion_from_All P (take (i + 1) xs) (All-more P xs i x within (All-from_recursion P (take i xs) so_far) (subst P is p))

-- one of them
pub each_at : {X : Type 0} (P : X → Type 0) (xs : List X) (i : ℕ) (x : X) → i < length xs → x ≡ get_or xs i x → AllByRecursion P xs → P x
each_at P xs i x within is all = subst P (sym is) (All-get_or P xs i x within (All-from_recursion P xs all))

-- a name among others, or not
not_both : false ≡ true → ⊥
not_both e = subst T (sym e) tt

is_none : (b : Bool) → true ≡ not b → b ≡ false
is_none true e = absurd (not_both (sym e))
is_none false e = refl

is_one : (b : Bool) → false ≡ not b → b ≡ true
is_one true e = refl
is_one false e = absurd (not_both e)

one_of_them : (x y : List ℕ) (ys : List (List ℕ)) (b : Bool) → bytes_eq x y ≡ b → (list_any (bytes_eq x) ys ≡ true → AllByRecursion (λ z. x ≢ z) ys → ⊥) → (b || list_any (bytes_eq x) ys) ≡ true → AllByRecursion (λ z. x ≢ z) (y ∷ ys) → ⊥
one_of_them x y ys true e rest h all = all.0 ((bytes_eq-Decides x y).0 e)
one_of_them x y ys false e rest h all = rest h all.1

some_equal : (x : List ℕ) (ys : List (List ℕ)) → list_any (bytes_eq x) ys ≡ true → AllByRecursion (λ z. x ≢ z) ys → ⊥
some_equal x [] h all = not_both h
some_equal x (y ∷ ys) h all = one_of_them x y ys (bytes_eq x y) refl (some_equal x ys) h all

none_of_them : (x y : List ℕ) (ys : List (List ℕ)) (b : Bool) → bytes_eq x y ≡ b → (list_any (bytes_eq x) ys ≡ false → AllByRecursion (λ z. x ≢ z) ys) → (b || list_any (bytes_eq x) ys) ≡ false → AllByRecursion (λ z. x ≢ z) (y ∷ ys)
none_of_them x y ys true e rest h = absurd (not_both (sym h))
none_of_them x y ys false e rest h = (λ same. not_both (sym e ∙ (bytes_eq-Decides x y).1 same), rest h)

none_equal : (x : List ℕ) (ys : List (List ℕ)) → list_any (bytes_eq x) ys ≡ false → AllByRecursion (λ z. x ≢ z) ys
none_equal x [] h = tt
none_equal x (y ∷ ys) h = none_of_them x y ys (bytes_eq x y) refl (none_equal x ys) h

cond_or : (a b : Bool) → cond a true b ≡ (a || b)
cond_or true b = refl
cond_or false b = refl

-- the set has these names
abbrev pub Has : BTreeSet (List ℕ) → List (List ℕ) → Type 0
Has set names = (word : List ℕ) → contains (slice_cmp nat_cmp) set word ≡ list_any (bytes_eq word) names

same_bytes : (a b : List ℕ) → bytes_eq a b ≡ bytes_eq b a
same_bytes a b = one_answer (bytes_eq a b) (bytes_eq b a) (bytes_eq-Decides a b) (λ e. sym ((bytes_eq-Decides b a).0 e), λ e. (bytes_eq-Decides b a).1 (sym e))

no_name_differs : (xs : List (List ℕ)) (i : ℕ) → i ≡ length xs → drop i xs ≡ []
no_name_differs xs i e = drop_all i xs (omega (arith, e))

pub has_none : (set : BTreeSet (List ℕ)) (xs : List (List ℕ)) (i : ℕ) → set.keys ≡ [] → i ≡ length xs → Has set (drop i xs)
has_none set xs i none e = λ word. ap (list_any (λ k. is_eq (slice_cmp nat_cmp word k))) none ∙ sym (ap (list_any (bytes_eq word)) (no_name_differs xs i e))

pub none_differs : (xs : List (List ℕ)) (i : ℕ) → i ≡ length xs → Differ (drop i xs)
none_differs xs i e = subst Differ (sym (no_name_differs xs i e)) tt

-- names from one on
module _ (xs : List (List ℕ)) (i j : ℕ) (next : j ≡ i + 1) (x : List ℕ) (within : i < length xs) (is : x ≡ get_or xs i x) where
  from_here : drop i xs ≡ x ∷ drop j xs
  from_here = drop_more xs i x within ∙ ap (λ y. y ∷ drop (i + 1) xs) (sym is) ∙ ap (λ n. x ∷ drop n xs) (sym next)

  module _ (set : BTreeSet (List ℕ)) (has : Has set (drop j xs)) where
    -- one that the set hasn't
    pub differ_more : true ≡ not (contains (slice_cmp nat_cmp) set x) → Differ (drop j xs) → Differ (drop i xs)
    differ_more new rest = subst Differ (sym from_here) (none_equal x (drop j xs) (is_none (list_any (bytes_eq x) (drop j xs)) (new ∙ ap not (has x))), rest)

    pub has_more : (new : BTreeSet (List ℕ)) → Updates (slice_cmp nat_cmp) set new x true → Has new (drop i xs)
    has_more new updates = λ word.
        updates.0 word
        ∙ ap (λ b. cond b true (contains (slice_cmp nat_cmp) set word)) (sym (texts_ties x word) ∙ same_bytes x word)
        ∙ ap (λ b. cond (bytes_eq word x) true b) (has word)
        ∙ cond_or (bytes_eq word x) (list_any (bytes_eq word) (drop j xs))
        ∙ sym (ap (list_any (bytes_eq word)) from_here)

    -- one that it has
    pub differ_not : false ≡ not (contains (slice_cmp nat_cmp) set x) → Differ (drop i xs) → ⊥
    differ_not old all = some_equal x (drop j xs) (is_one (list_any (bytes_eq x) (drop j xs)) (old ∙ ap not (has x))) (subst Differ from_here all).0

pub differ_drop : (i : ℕ) (xs : List (List ℕ)) → Differ xs → Differ (drop i xs)
differ_drop zero xs h = h
differ_drop (suc i) [] h = h
differ_drop (suc i) (x ∷ xs) h = differ_drop i xs h.1

-- the item of a list of one
pub one_of : (xs : List (List ℕ)) → length xs ≡ 1 → (x : List ℕ) × (xs ≡ x ∷ [])
one_of [] e = absurd (omega (arith, e))
one_of (x ∷ []) e = (x, refl)
one_of (x ∷ y ∷ xs) e = absurd (omega (arith, e))

-- a function of one parameter
pub takes_length : (code : Code) → TakesOne code → length code.params ≡ 1
takes_length code takes = ap length takes.params

pub with_one : {E : Type 0} (answer : Result Bool E) (code : Code) → length code.params ≡ 1 → Tells (IsWellSpelledCode code) answer → Tells (IsWellSpelledCode code × TakesOne code) answer
with_one (Ok is) code one told =
    let first = one_of code.params one in
    let takes : TakesOne code = record { param = first.0; params = first.1 } in
    (λ h. (told.0 h, takes), λ h. told.1 h.0)
with_one (Err e) code one told = told
