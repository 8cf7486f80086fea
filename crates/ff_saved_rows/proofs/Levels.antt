-- The levels of a set, gone through in order.
use Rattle.std.proofs.Common.{◌≡◌, ◌<◌, ◌≤◌, ◌+◌, ◌-◌, ℕ, zero, suc, Bool, true, false, cond, ◌||◌, List, [], ◌∷◌, ◌++◌, filter, All, refl, sym, ap, ◌∙◌, append-nil, arith}
use Rattle.std.proofs.lemmas.Bool.{ne_eqb}
use Rattle.std.proofs.lemmas.List.Elements.{All-head, All-tail, filter-append}
use Rattle.ff_lattice.specs.LevelSet.{has, IsLevelSet, below}
use Rattle.ff_lattice.specs.declared.names.TheConstants.{MOST_LEVELS}

-- no number at or past n is one of them
none_past : (levels : List ℕ) (n m : ℕ) → All (λ l. l < n) levels → n ≤ m → has levels m ≡ false
none_past [] n m low past = refl
none_past (l ∷ levels) n m low past =
    let here : l < n = All-head (λ k. k < n) l levels low in
    ap (λ b. b || has levels m) (ne_eqb l m (λ same. omega (arith, here, past, same))) ∙ none_past levels n m (All-tail (λ k. k < n) l levels low) past

shrinks : (levels : List ℕ) (n d : ℕ) → All (λ l. l < n) levels → filter (has levels) (below (d + n)) ≡ filter (has levels) (below n)
unfolding below
shrinks levels n zero low = let e : zero + n ≡ n = omega arith in ap (λ k. filter (has levels) (below k)) e
shrinks levels n (suc d) low =
    ap (λ k. filter (has levels) (below k)) more
    ∙ filter-append (has levels) (below (d + n)) ((d + n) ∷ [])
    ∙ ap (λ ks. filter (has levels) (below (d + n)) ++ ks) (alone (has levels (d + n)) (none_past levels n (d + n) low (omega arith)))
    ∙ append-nil (filter (has levels) (below (d + n)))
    ∙ shrinks levels n d low
  where
    more : suc d + n ≡ suc (d + n)
    more = omega arith

    alone : (b : Bool) → b ≡ false → cond b ((d + n) ∷ []) [] ≡ []
    alone false e = refl
    alone true e = cc

pub all_levels : (levels : List ℕ) (n : ℕ) → IsLevelSet levels → n ≤ MOST_LEVELS → All (λ l. l < n) levels → filter (has levels) (below n) ≡ levels
all_levels levels n set few low =
    let e : (MOST_LEVELS - n) + n ≡ MOST_LEVELS = omega arith in
    sym (shrinks levels n (MOST_LEVELS - n) low) ∙ ap (λ k. filter (has levels) (below k)) e ∙ sym set

pub one_level_more : (levels : List ℕ) (n : ℕ) → filter (has levels) (below (n + 1)) ≡ filter (has levels) (below n) ++ filter (has levels) (n ∷ [])
unfolding below
one_level_more levels n = let e : n + 1 ≡ suc n = omega arith in ap (λ k. filter (has levels) (below k)) e ∙ filter-append (has levels) (below n) (n ∷ [])
