-- Lists that are joined, filtered and made entry by entry.
use Rattle.std.proofs.Common.{◌≡◌, ℕ, zero, suc, ◌<◌, Bool, true, false, cond, List, [], ◌∷◌, ◌++◌, filter, filter_map, flat_map, All, Option, Some, None, refl, sym, ap, ◌∙◌, append_assoc, append-nil, arith}
use Rattle.std.proofs.lemmas.Bool.{cases_eq}
use Rattle.std.proofs.lemmas.List.Elements.{filter-append, All-head, All-tail}
use Rattle.std.proofs.lemmas.List.Concat.{flat_map-append}
use Rattle.std.specs.List.{cons_option}
use Rattle.std.proofs.Common.{◌⊎◌, inl, inr}
use Rattle.ff_confinement.specs.Runs.{entries, joined, last_or}
use Rattle.ff_contract.specs.Lists.{below, Begins}

-- what one more list at the end joins on
pub joined_push : {X : Type 0} (xss : List (List X)) (xs : List X) → joined (xss ++ xs ∷ []) ≡ joined xss ++ xs
joined_push xss xs = flat_map-append (λ ys. ys) xss (xs ∷ []) ∙ ap (λ ys. joined xss ++ ys) (append-nil xs)

-- a filter of joined lists joins the filtered lists
pub filter-flat_map : {X Y : Type 0} (p : Y → Bool) (f : X → List Y) (xs : List X) → filter p (flat_map f xs) ≡ flat_map (λ x. filter p (f x)) xs
filter-flat_map p f [] = refl
filter-flat_map p f (x ∷ xs) = filter-append p (f x) (flat_map f xs) ∙ ap (λ ys. filter p (f x) ++ ys) (filter-flat_map p f xs)

-- two functions that agree below n make the same of the numbers below n
pub flat_map_agree_below : {Y : Type 0} (f g : ℕ → List Y) (n : ℕ) → ((k : ℕ) → k < n → f k ≡ g k) → flat_map f (below n) ≡ flat_map g (below n)
flat_map_agree_below f g zero agree = refl
flat_map_agree_below f g (suc n) agree =
    flat_map-append f (below n) (n ∷ [])
    ∙ ap (λ ys. ys ++ (f n ++ [])) (flat_map_agree_below f g n (λ k lt. agree k (omega arith)))
    ∙ ap (λ ys. flat_map g (below n) ++ (ys ++ [])) (agree n (omega arith))
    ∙ sym (flat_map-append g (below n) (n ∷ []))

-- where a function gives nothing below n, nothing is joined
pub flat_map_none_below : {Y : Type 0} (f : ℕ → List Y) (n : ℕ) → ((k : ℕ) → k < n → f k ≡ []) → flat_map f (below n) ≡ []
flat_map_none_below f zero none = refl
flat_map_none_below f (suc n) none =
    flat_map-append f (below n) (n ∷ [])
    ∙ ap (λ ys. ys ++ (f n ++ [])) (flat_map_none_below f n (λ k lt. none k (omega arith)))
    ∙ ap (λ ys. ys ++ []) (none n (omega arith))

-- one number's part alone is left of a join over the numbers below n, where all others give nothing
pub flat_map_one_below : {Y : Type 0} (f : ℕ → List Y) (l n : ℕ) → l < n → ((k : ℕ) → k < n → (k ≡ l → ⊥) → f k ≡ []) → flat_map f (below n) ≡ f l
flat_map_one_below f l zero lt none = absurd (omega arith)
flat_map_one_below f l (suc n) lt none =
    flat_map-append f (below n) (n ∷ []) ∙ from (cases_eq n l) (λ differ. flat_map_one_below f l n (omega arith) (λ k below_n. none k (omega arith)))
  where
    from : (n ≡ l) ⊎ (n ≡ l → ⊥) → ((n ≡ l → ⊥) → flat_map f (below n) ≡ f l) → flat_map f (below n) ++ (f n ++ []) ≡ f l
    from (inl e) found =
        ap (λ ys. ys ++ (f n ++ [])) (flat_map_none_below f n (λ k below_n. none k (omega arith) (λ same. omega arith)))
        ∙ append-nil (f n) ∙ ap f e
    from (inr differ) found = ap (λ ys. ys ++ (f n ++ [])) (found differ) ∙ ap (λ ys. f l ++ (ys ++ [])) (none n (omega arith) differ) ∙ append-nil (f l)

-- two tests that agree at each element keep the same elements
pub filter_agree_all : {X : Type 0} (p q : X → Bool) (xs : List X) → All (λ x. p x ≡ q x) xs → filter p xs ≡ filter q xs
filter_agree_all p q [] agree = refl
filter_agree_all p q (x ∷ xs) agree =
    let rest = filter_agree_all p q xs (All-tail (λ y. p y ≡ q y) x xs agree) in
    ap (λ ys. cond (p x) (x ∷ ys) ys) rest ∙ ap (λ b. cond b (x ∷ filter q xs) (filter q xs)) (All-head (λ y. p y ≡ q y) x xs agree)

-- a test that all pass keeps all, and one that none passes keeps none
pub filter_all : {X : Type 0} (p : X → Bool) (xs : List X) → All (λ x. p x ≡ true) xs → filter p xs ≡ xs
filter_all p [] pass = refl
filter_all p (x ∷ xs) pass =
    ap (λ ys. cond (p x) (x ∷ ys) ys) (filter_all p xs (All-tail (λ y. p y ≡ true) x xs pass)) ∙ ap (λ b. cond b (x ∷ xs) xs) (All-head (λ y. p y ≡ true) x xs pass)

pub filter_none : {X : Type 0} (p : X → Bool) (xs : List X) → All (λ x. p x ≡ false) xs → filter p xs ≡ []
filter_none p [] fail = refl
filter_none p (x ∷ xs) fail =
    ap (λ ys. cond (p x) (x ∷ ys) ys) (filter_none p xs (All-tail (λ y. p y ≡ false) x xs fail)) ∙ ap (λ b. cond b (x ∷ []) []) (All-head (λ y. p y ≡ false) x xs fail)

-- the last entry is the one that was put at the end
pub last_or_push : {X : Type 0} (d : List X) (xss : List (List X)) (xs : List X) → last_or d (xss ++ xs ∷ []) ≡ xs
last_or_push d [] xs = refl
last_or_push d (ys ∷ yss) xs = last_or_push ys yss xs

-- the entries of more inputs: those so far, and then those of the rest
pub entries-append : {I E : Type 0} (entry : List I → I → E) (before is js : List I) → entries entry before (is ++ js) ≡ entries entry before is ++ entries entry (before ++ is) js
entries-append entry before [] js = ap (λ xs. entries entry xs js) (sym (append-nil before))
entries-append entry before (i ∷ is) js =
    ap (λ es. entry before i ∷ es) (entries-append entry (before ++ i ∷ []) is js
    ∙ ap (λ xs. entries entry (before ++ i ∷ []) is ++ entries entry xs js) (append_assoc before (i ∷ []) is))

-- what is kept of one more
pub filter_map_push : {X Y : Type 0} (h : X → Option Y) (xs : List X) (x : X) → filter_map h (xs ++ x ∷ []) ≡ filter_map h xs ++ cons_option (h x) []
filter_map_push h [] x = refl
filter_map_push h (y ∷ ys) x = ap (cons_option (h y)) (filter_map_push h ys x) ∙ onto (h y)
  where
    onto : (o : Option _) → cons_option o (filter_map h ys ++ cons_option (h x) []) ≡ cons_option o (filter_map h ys) ++ cons_option (h x) []
    onto None = refl
    onto (Some z) = refl

-- A list begins with itself, and with what a list that it begins with begins with; so do both
-- behind the same list, and the longer one with more behind it.
pub Begins-refl : {X : Type 0} (xs : List X) → Begins xs xs
Begins-refl xs = ([], sym (append-nil xs))

pub Begins-trans : {X : Type 0} (xs ys zs : List X) → Begins xs ys → Begins ys zs → Begins xs zs
Begins-trans xs ys zs outer inner = (inner.0 ++ outer.0, outer.1 ∙ ap (λ ws. ws ++ outer.0) inner.1 ∙ append_assoc zs inner.0 outer.0)

pub Begins-under : {X : Type 0} (front xs ys : List X) → Begins xs ys → Begins (front ++ xs) (front ++ ys)
Begins-under front xs ys begins = (begins.0, ap (λ ws. front ++ ws) begins.1 ∙ sym (append_assoc front ys begins.0))

pub Begins-append : {X : Type 0} (xs ys zs : List X) → Begins xs zs → Begins (xs ++ ys) zs
Begins-append xs ys zs begins = (begins.0 ++ ys, ap (λ ws. ws ++ ys) begins.1 ∙ append_assoc zs begins.0 ys)

pub Begins-same : {X : Type 0} (xs ys zs : List X) → xs ≡ ys → Begins ys zs → Begins xs zs
Begins-same xs ys zs e begins = (begins.0, e ∙ begins.1)
