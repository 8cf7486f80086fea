-- What is found is the first difference.
use Rattle.std.proofs.Common.{◌≡◌, ◌≢◌, ℕ, zero, suc, ◌+◌, ◌<◌, ◌≤◌, ◌||◌, Bool, true, false, cond, bytes_eq, Option, Some, None, List, [], ◌∷◌, length, refl, sym, ap, subst, ◌∙◌, arith, ◌⊎◌, inl, inr}
use Rattle.std.specs.Prelude.{slice_get}
use Rattle.std.proofs.lemmas.Bool.{true≢false, false≢true, cases_lt}
use Rattle.std.proofs.lemmas.Option.{none-some, same_Some}
use Rattle.std.proofs.lemmas.Slice.Eq.{bytes_eq-Decides}
use Rattle.ff_contract.specs.Lists.{below}
use Rattle.ff_audit.specs.Comparing.{compared, differs, DiffersAt, IsFirstDifference}
use Rattle.ff_audit.specs.Verdicts.{any_differ}
use Rattle.ff_audit.specs.declared.verdict.Verdict.{Verdict}
use Rattle.ff_audit.specs.declared.verdict.Verdict.TheVariants.{Clean, Differs}
use Rattle.ff_audit.proofs.Leveled.{any_last}

-- the same after n equal lines
data FromHere (n : ℕ) (ps ms : List (List ℕ)) : Verdict → Type 0 where
  same : ps ≡ ms → FromHere n ps ms (Clean (n + length ps))
  first : (k : ℕ) → ((j : ℕ) → j < k → slice_get ps j ≡ slice_get ms j) → slice_get ps k ≢ slice_get ms k → FromHere n ps ms (Differs (suc (n + k)) (slice_get ps k) (slice_get ms k))

none_plus : (n : ℕ) → n ≡ 0 + n
none_plus n = omega arith

plus_none : (n : ℕ) → n + 0 ≡ n
plus_none n = omega arith

plus_suc : (n k : ℕ) → suc n + k ≡ n + suc k
plus_suc n k = omega arith

onward : (n : ℕ) (p m : List ℕ) (ps ms : List (List ℕ)) (v : Verdict) → p ≡ m → FromHere (suc n) ps ms v → FromHere n (p ∷ ps) (m ∷ ms) v
onward n p m ps ms _ is (FromHere.same all) =
    subst (λ k. FromHere n (p ∷ ps) (m ∷ ms) (Clean k)) (sym (plus_suc n (length ps))) (FromHere.same (ap (λ x. x ∷ ps) is ∙ ap (λ xs. m ∷ xs) all))
onward n p m ps ms _ is (FromHere.first k before other) =
    subst (λ j. FromHere n (p ∷ ps) (m ∷ ms) (Differs (suc j) (slice_get ps k) (slice_get ms k))) (sym (plus_suc n k)) (FromHere.first (suc k) until other)
  where
    until : (j : ℕ) → j < suc k → slice_get (p ∷ ps) j ≡ slice_get (m ∷ ms) j
    until zero lt = ap (λ x. Some x) is
    until (suc j) lt = before j (omega arith)

here : (n : ℕ) (ps ms : List (List ℕ)) (p m : Option (List ℕ)) → slice_get ps 0 ≡ p → slice_get ms 0 ≡ m → p ≢ m → FromHere n ps ms (Differs (suc n) p m)
here n ps ms p m p_is m_is other =
    subst (λ k. FromHere n ps ms (Differs (suc k) p m)) (plus_none n)
    (subst (λ q. FromHere n ps ms (Differs (suc (n + 0)) q m)) p_is (subst (λ q. FromHere n ps ms (Differs (suc (n + 0)) (slice_get ps 0) q)) m_is
    (FromHere.first 0 (λ j lt. absurd (omega arith)) (λ e. other (sym p_is ∙ e ∙ m_is)))))

from_here : (n : ℕ) (ps ms : List (List ℕ)) → FromHere n ps ms (compared n ps ms)
from_here n [] [] = subst (λ k. FromHere n [] [] (Clean k)) (plus_none n) (FromHere.same refl)
from_here n (p ∷ ps) [] = here n (p ∷ ps) [] (Some p) None refl refl (λ e. none-some p (sym e))
from_here n [] (m ∷ ms) = here n [] (m ∷ ms) None (Some m) refl refl (λ e. none-some m e)
from_here n (p ∷ ps) (m ∷ ms) = from (from_here (suc n) ps ms) (bytes_eq p m) refl
  where
    from : FromHere (suc n) ps ms (compared (suc n) ps ms) → (t : Bool) → bytes_eq p m ≡ t → FromHere n (p ∷ ps) (m ∷ ms) (cond (bytes_eq p m) (compared (suc n) ps ms) (Differs (suc n) (Some p) (Some m)))
    from more true is =
        subst (λ b. FromHere n (p ∷ ps) (m ∷ ms) (cond b (compared (suc n) ps ms) (Differs (suc n) (Some p) (Some m)))) (sym is)
        (onward n p m ps ms (compared (suc n) ps ms) ((bytes_eq-Decides p m).0 is) more)
    from more false is =
        subst (λ b. FromHere n (p ∷ ps) (m ∷ ms) (cond b (compared (suc n) ps ms) (Differs (suc n) (Some p) (Some m)))) (sym is)
        (here n (p ∷ ps) (m ∷ ms) (Some p) (Some m) refl refl (λ e. false≢true (sym is ∙ (bytes_eq-Decides p m).1 (same_Some p m e))))

pub first_difference : (ps ms : List (List ℕ)) → IsFirstDifference ps ms (compared 0 ps ms)
first_difference ps ms = from (compared 0 ps ms) (from_here 0 ps ms)
  where
    from : (v : Verdict) → FromHere 0 ps ms v → IsFirstDifference ps ms v
    from _ (FromHere.same all) = subst (λ k. IsFirstDifference ps ms (Clean k)) (none_plus (length ps)) (IsFirstDifference.none all)
    from _ (FromHere.first k before other) = subst (λ j. IsFirstDifference ps ms (Differs (suc j) (slice_get ps k) (slice_get ms k))) (none_plus k) (IsFirstDifference.at k before other)

-- no difference is found exactly in equal lists
pub found_equal : (ps ms : List (List ℕ)) → differs (compared 0 ps ms) ≡ false → ps ≡ ms
found_equal ps ms none = from (compared 0 ps ms) (first_difference ps ms) none
  where
    from : (v : Verdict) → IsFirstDifference ps ms v → differs v ≡ false → ps ≡ ms
    from _ (IsFirstDifference.none all) found = all
    from _ (IsFirstDifference.at k before other) found = absurd (true≢false found)

pub found_other : (ps ms : List (List ℕ)) → differs (compared 0 ps ms) ≡ true → ps ≢ ms
found_other ps ms some equal = from (compared 0 ps ms) (first_difference ps ms) some
  where
    from : (v : Verdict) → IsFirstDifference ps ms v → differs v ≡ true → ⊥
    from _ (IsFirstDifference.none all) found = false≢true found
    from _ (IsFirstDifference.at k before other) found = other (ap (λ ls. slice_get ls k) equal)

or_false : (a b : Bool) → (a || b) ≡ false → (a ≡ false) × (b ≡ false)
or_false true b none = absurd (true≢false none)
or_false false b none = (refl, none)

or_true : (a b : Bool) → (a || b) ≡ true → (a ≡ true) ⊎ (b ≡ true)
or_true true b some = inl refl
or_true false b some = inr some

pub none_differ : (n : ℕ) (ps ms : ℕ → List (List ℕ)) → any_differ n ps ms ≡ false → (l : ℕ) → l < n → ps l ≡ ms l
none_differ zero ps ms none l lt = absurd (omega arith)
none_differ (suc n) ps ms none l lt =
    let both = or_false (any_differ n ps ms) (differs (compared 0 (ps n) (ms n))) (sym (any_last (λ k. differs (compared 0 (ps k) (ms k))) (below n) n) ∙ none) in
    from (none_differ n ps ms both.0 l) both.1 (cases_lt l n)
  where
    from : (l < n → ps l ≡ ms l) → differs (compared 0 (ps n) (ms n)) ≡ false → (l < n) ⊎ (n ≤ l) → ps l ≡ ms l
    from before last (inl low) = before low
    from before last (inr high) = let e : n ≡ l = omega arith in subst (λ k. ps k ≡ ms k) e (found_equal (ps n) (ms n) last)

pub some_differ : (n : ℕ) (ps ms : ℕ → List (List ℕ)) → any_differ n ps ms ≡ true → DiffersAt n ps ms
some_differ zero ps ms some = absurd (false≢true some)
some_differ (suc n) ps ms some =
    from (some_differ n ps ms) (or_true (any_differ n ps ms) (differs (compared 0 (ps n) (ms n))) (sym (any_last (λ k. differs (compared 0 (ps k) (ms k))) (below n) n) ∙ some))
  where
    from : (any_differ n ps ms ≡ true → DiffersAt n ps ms) → (any_differ n ps ms ≡ true) ⊎ (differs (compared 0 (ps n) (ms n)) ≡ true) → DiffersAt (suc n) ps ms
    from goes (inl before) = let d = goes before in record { level = d.level; within = let lt = d.within in omega arith; other = d.other }
    from goes (inr last) = record { level = n; within = omega arith; other = found_other (ps n) (ms n) last }
