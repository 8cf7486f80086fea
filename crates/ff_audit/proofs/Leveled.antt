-- Loops over the levels, each of which has a comparison.
use Rattle.std.proofs.Common.{◌≡◌, ℕ, zero, suc, ◌+◌, ◌<◌, ◌≤◌, ◌⊎◌, inl, inr, Bool, true, false, ◌||◌, List, [], ◌∷◌, ◌++◌, length, set, flat_map, slice_index_or, refl, sym, ap, subst, ◌∙◌, append-nil, append_assoc, arith, length-append, length-set, get_or-set_same, get_or-set_other}
use Rattle.std.specs.List.{list_any}
use Rattle.std.proofs.lemmas.Bool.{cases_lt}
use Rattle.std.proofs.lemmas.Grind.{flat_map-append}
use Rattle.std.proofs.lemmas.List.Concat.{flat_map-cons}
use Rattle.ff_contract.specs.Lists.{below}
use Rattle.ff_confinement.proofs.Lists.{flat_map_agree_below}
use Rattle.ff_lattice.specs.Order.{Order, name, size}
use Rattle.ff_audit.specs.Owned.{own}
use Rattle.ff_audit.specs.Comparing.{compared, differs, Kept, ComparesAt, CompareAll}
use Rattle.ff_audit.specs.Verdicts.{any_differ, report_of, verdict_text}
use Rattle.ff_audit.specs.declared.verdict.Verdict.{Verdict}
use Rattle.ff_audit.proofs.Comparing.{at_now}

suc_is : (l : ℕ) → suc l ≡ l + 1
suc_is l = omega arith

-- ---- comparisons of no lines

pub record AllFresh (cs : List Kept) (n : ℕ) : Type 0 where
  pub count : length cs ≡ n
  pub all : CompareAll cs (λ l. []) (λ l. [])

pub all_start : (cs : List Kept) → cs ≡ [] → AllFresh cs 0
all_start cs none = record { count = ap length none; all = record { each = λ l d lt. absurd (omega (arith, ap length none)) } }

pub all_more : (cs more : List Kept) (c : Kept) (n : ℕ) → AllFresh cs n → more ≡ cs ++ c ∷ [] → ComparesAt c [] [] → AllFresh more (n + 1)
all_more cs more c n fresh added new = record {
  count = let had = fresh.count in omega (arith, ap length added, length-append cs (c ∷ []));
  all = record { each = λ l d lt. subst (λ xs. ComparesAt (slice_index_or xs l d) [] []) (sym added) (from cs l d (fresh.all.each l d) (omega (arith, ap length added, length-append cs (c ∷ [])))) };
}
  where
    from : (xs : List Kept) (l : ℕ) (d : Kept) → (l < length xs → ComparesAt (slice_index_or xs l d) [] []) → l < length xs + 1 → ComparesAt (slice_index_or (xs ++ c ∷ []) l d) [] []
    from [] zero d old lt = new
    from [] (suc l) d old lt = absurd (omega arith)
    from (x ∷ xs) zero d old lt = old (omega arith)
    from (x ∷ xs) (suc l) d old lt = from xs l d (λ less. old (omega arith)) (omega arith)

-- ---- both texts are heard at each level

pub record HearsBelow (order : Order) (plain multi : List ℕ) (first now : List Kept) (n : ℕ) : Type 0 where
  pub count : length now ≡ length first
  pub done : (ps ms : ℕ → List (List ℕ)) → CompareAll first ps ms → (l : ℕ) (d : Kept) → l < n → l < length now
      → ComparesAt (slice_index_or now l d) (ps l ++ own order plain l) (ms l ++ own order multi l)
  pub waiting : (l : ℕ) (d : Kept) → n ≤ l → slice_index_or now l d ≡ slice_index_or first l d

pub hears_start : (order : Order) (plain multi : List ℕ) (first : List Kept) → HearsBelow order plain multi first first 0
hears_start order plain multi first = record { count = refl; done = λ ps ms all l d less lt. absurd (omega arith); waiting = λ l d past. refl }

pub hears_more : (order : Order) (plain multi : List ℕ) (first now next : List Kept) (n : ℕ) (c e : Kept) → HearsBelow order plain multi first now n → n < length now → next ≡ set now n c
    → ((ps ms : List (List ℕ)) → ComparesAt (slice_index_or now n e) ps ms → ComparesAt c (ps ++ own order plain n) (ms ++ own order multi n))
    → HearsBelow order plain multi first next (n + 1)
hears_more order plain multi first now next n c e has lt written heard = record {
  count = ap length written ∙ length-set now n c ∙ has.count;
  done = λ ps ms all l d less within. from ps ms all l d less within (cases_lt l n);
  waiting = λ l d past. ap (λ cs. slice_index_or cs l d) written ∙ get_or-set_other now n l c d (λ e. omega arith) ∙ has.waiting l d (omega arith);
}
  where
    from : (ps ms : ℕ → List (List ℕ)) → CompareAll first ps ms → (l : ℕ) (d : Kept) → l < n + 1 → l < length next → (l < n) ⊎ (n ≤ l)
        → ComparesAt (slice_index_or next l d) (ps l ++ own order plain l) (ms l ++ own order multi l)
    from ps ms all l d less within (inl low) =
        let same : slice_index_or next l d ≡ slice_index_or now l d = ap (λ cs. slice_index_or cs l d) written ∙ get_or-set_other now n l c d (λ e. omega arith) in
        subst (λ k. ComparesAt k (ps l ++ own order plain l) (ms l ++ own order multi l)) (sym same)
        (has.done ps ms all l d low (omega (arith, ap length written, length-set now n c)))
    from ps ms all l d less within (inr high) =
        let here : n ≡ l = omega arith in
        let got : slice_index_or next n d ≡ c = ap (λ cs. slice_index_or cs n d) written ∙ get_or-set_same now n c d lt in
        let old : ComparesAt (slice_index_or now n e) (ps n) (ms n) = subst (λ k. ComparesAt k (ps n) (ms n)) (sym (has.waiting n e (omega arith))) (all.each n e (let same = has.count in omega (arith, same))) in
        subst (λ k. ComparesAt (slice_index_or next k d) (ps k ++ own order plain k) (ms k ++ own order multi k)) here
        (subst (λ k. ComparesAt k (ps n ++ own order plain n) (ms n ++ own order multi n)) (sym got) (heard (ps n) (ms n) old))

pub hears_done : (order : Order) (plain multi : List ℕ) (first now : List Kept) (n : ℕ) → HearsBelow order plain multi first now n → length first ≤ n
    → (ps ms : ℕ → List (List ℕ)) → CompareAll first ps ms → CompareAll now (λ l. ps l ++ own order plain l) (λ l. ms l ++ own order multi l)
hears_done order plain multi first now n has all ps ms at = record { each = λ l d lt. has.done ps ms at l d (let e = has.count in omega (arith, e)) lt }

-- ---- differences

pub any_last : {X : Type 0} (f : X → Bool) (xs : List X) (x : X) → list_any f (xs ++ x ∷ []) ≡ (list_any f xs || f x)
any_last f [] x = or-false (f x)
  where
    or-false : (b : Bool) → (b || false) ≡ b
    or-false true = refl
    or-false false = refl
any_last f (y ∷ ys) x = ap (λ b. f y || b) (any_last f ys x) ∙ assoc (f y) (list_any f ys) (f x)
  where
    assoc : (a b c : Bool) → (a || (b || c)) ≡ ((a || b) || c)
    assoc true b c = refl
    assoc false b c = refl

-- those of the levels below n
pub record DifferBelow (cs : List Kept) (leak : Bool) (n : ℕ) : Type 0 where
  pub found : (ps ms : ℕ → List (List ℕ)) → CompareAll cs ps ms → leak ≡ any_differ n ps ms

pub differ_start : (cs : List Kept) → DifferBelow cs false 0
differ_start cs = record { found = λ ps ms all. refl }

differ_last : (ps ms : ℕ → List (List ℕ)) (n : ℕ) → any_differ (n + 1) ps ms ≡ (any_differ n ps ms || differs (compared 0 (ps n) (ms n)))
differ_last ps ms n = ap (λ k. any_differ k ps ms) (sym (suc_is n)) ∙ any_last (λ l. differs (compared 0 (ps l) (ms l))) (below n) n

or-true : (b : Bool) → (b || true) ≡ true
or-true true = refl
or-true false = refl

or-none : (b : Bool) → (b || false) ≡ b
or-none true = refl
or-none false = refl

module _ (cs : List Kept) (leak : Bool) (n : ℕ) (has : DifferBelow cs leak n) (lt : n < length cs) (answer : Bool)
    (differ : (d : Kept) (ps ms : List (List ℕ)) → ComparesAt (slice_index_or cs n d) ps ms → answer ≡ differs (compared 0 ps ms)) where
  at : (ps ms : ℕ → List (List ℕ)) → CompareAll cs ps ms → answer ≡ differs (compared 0 (ps n) (ms n))
  at ps ms all = from cs lt (λ d. differ d (ps n) (ms n)) (λ d. all.each n d lt)
    where
      from : (xs : List Kept) → n < length xs → ((d : Kept) → ComparesAt (slice_index_or cs n d) (ps n) (ms n) → answer ≡ differs (compared 0 (ps n) (ms n)))
          → ((d : Kept) → ComparesAt (slice_index_or cs n d) (ps n) (ms n)) → answer ≡ differs (compared 0 (ps n) (ms n))
      from [] less tells has' = absurd (omega arith)
      from (x ∷ xs) less tells has' = tells x (has' x)

  pub differ_more : answer ≡ true → DifferBelow cs true (n + 1)
  differ_more is = record { found = λ ps ms all. sym (differ_last ps ms n ∙ ap (λ b. any_differ n ps ms || b) (sym (at ps ms all) ∙ is) ∙ or-true (any_differ n ps ms)) }

  pub differ_same : answer ≡ false → DifferBelow cs leak (n + 1)
  differ_same is = record { found = λ ps ms all. has.found ps ms all ∙ sym (differ_last ps ms n ∙ ap (λ b. any_differ n ps ms || b) (sym (at ps ms all) ∙ is) ∙ or-none (any_differ n ps ms)) }

pub differ_done : (cs : List Kept) (leak : Bool) (n : ℕ) → DifferBelow cs leak n → n ≡ length cs → (ps ms : ℕ → List (List ℕ)) → CompareAll cs ps ms → leak ≡ any_differ (length cs) ps ms
differ_done cs leak n has all ps ms at = has.found ps ms at ∙ ap (λ k. any_differ k ps ms) all

-- ---- the report

pub record ReportsBelow (order : Order) (cs : List Kept) (before now : List ℕ) (n : ℕ) : Type 0 where
  pub text_is : (ps ms : ℕ → List (List ℕ)) → CompareAll cs ps ms → now ≡ before ++ report_of order n ps ms

pub report_start : (order : Order) (cs : List Kept) (text : List ℕ) → ReportsBelow order cs text text 0
report_start order cs text = record { text_is = λ ps ms all. sym (append-nil text) }

pub report_more : (order : Order) (cs : List Kept) (before now longer : List ℕ) (n : ℕ) (v : Verdict) → ReportsBelow order cs before now n
    → ((ps ms : ℕ → List (List ℕ)) → CompareAll cs ps ms → v ≡ compared 0 (ps n) (ms n)) → longer ≡ now ++ verdict_text (name order n) v → ReportsBelow order cs before longer (n + 1)
report_more order cs before now longer n v has found added = record {
  text_is = λ ps ms all.
      added ∙ ap (λ t. t ++ verdict_text (name order n) v) (has.text_is ps ms all) ∙ append_assoc before (report_of order n ps ms) (verdict_text (name order n) v)
      ∙ ap (λ w. before ++ (report_of order n ps ms ++ verdict_text (name order n) w)) (found ps ms all)
      ∙ ap (λ t. before ++ t) (sym (flat_map_last (λ l. verdict_text (name order l) (compared 0 (ps l) (ms l))) (below n) n)) ∙ ap (λ k. before ++ report_of order k ps ms) (suc_is n);
}
  where
    flat_map_last : (f : ℕ → List ℕ) (ns : List ℕ) (k : ℕ) → flat_map f (ns ++ k ∷ []) ≡ flat_map f ns ++ f k
    flat_map_last f ns k = flat_map-append f ns (k ∷ []) ∙ ap (λ xs. flat_map f ns ++ xs) (flat_map-cons f k [] ∙ append-nil (f k))

pub report_done : (order : Order) (cs : List Kept) (before now : List ℕ) (n : ℕ) → ReportsBelow order cs before now n → n ≡ size order
    → (ps ms : ℕ → List (List ℕ)) → CompareAll cs ps ms → now ≡ before ++ report_of order (size order) ps ms
report_done order cs before now n has all ps ms at = has.text_is ps ms at ∙ ap (λ k. before ++ report_of order k ps ms) all

-- ---- what is found follows from the comparisons alone

module _ (cs : List Kept) (ps ms qs ns : ℕ → List (List ℕ)) (one : CompareAll cs ps ms) (other : CompareAll cs qs ns) where
  same_found : (l : ℕ) → l < length cs → compared 0 (ps l) (ms l) ≡ compared 0 (qs l) (ns l)
  same_found l lt = from cs lt
    where
      from : (xs : List Kept) → l < length xs → compared 0 (ps l) (ms l) ≡ compared 0 (qs l) (ns l)
      from [] less = absurd (omega arith)
      from (x ∷ xs) less =
          let c = slice_index_or cs l x in
          at_now c.equal c.plain c.multi (ps l) (ms l) (one.each l x lt) ∙ sym (at_now c.equal c.plain c.multi (qs l) (ns l) (other.each l x lt))

  pub same_report : (order : Order) (n : ℕ) → n ≤ length cs → report_of order n ps ms ≡ report_of order n qs ns
  same_report order n all =
      flat_map_agree_below (λ l. verdict_text (name order l) (compared 0 (ps l) (ms l))) (λ l. verdict_text (name order l) (compared 0 (qs l) (ns l))) n
      (λ l lt. ap (verdict_text (name order l)) (same_found l (omega arith)))

-- other names for the same lists
pub compare_same : (cs : List Kept) (ps ms qs ns : ℕ → List (List ℕ)) → ((l : ℕ) → ps l ≡ qs l) → ((l : ℕ) → ms l ≡ ns l) → CompareAll cs ps ms → CompareAll cs qs ns
compare_same cs ps ms qs ns p_is m_is all = record { each = λ l d lt. subst (λ xs. ComparesAt (slice_index_or cs l d) xs (ns l)) (p_is l) (subst (ComparesAt (slice_index_or cs l d) (ps l)) (m_is l) (all.each l d lt)) }
