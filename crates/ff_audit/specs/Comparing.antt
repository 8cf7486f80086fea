-- Two lists of lines, compared.
use Rattle.std.specs.Prelude.{◌≡◌, ◌≢◌, ℕ, suc, ◌+◌, ◌<◌, Bool, true, false, cond, bytes_eq, Option, Some, None, List, [], ◌∷◌, ◌++◌, length, slice_get, slice_index_or, refl, ⊤}
use Rattle.std.specs.Coded.{Coded, code_by, coded×, coded_list, coded_ℕ}
use Rattle.ff_session.specs.OwnLines.{own_contents}
use Rattle.ff_audit.specs.declared.verdict.Verdict.{Verdict}
use Rattle.ff_audit.specs.declared.verdict.Verdict.TheVariants.{Clean, Differs}
use Rattle.ff_audit.specs.declared.comparison.Side.{Side}
use Rattle.ff_audit.specs.declared.comparison.Side.TheVariants.{Plain, Multi}

-- What is found of two lists of lines that come after n equal ones: their first difference, or how
-- many lines there are.
abbrev pub compared : ℕ → List (List ℕ) → List (List ℕ) → Verdict
compared n [] [] = Clean n
compared n (p ∷ ps) [] = Differs (suc n) (Some p) None
compared n [] (m ∷ ms) = Differs (suc n) None (Some m)
compared n (p ∷ ps) (m ∷ ms) = cond (bytes_eq p m) (compared (suc n) ps ms) (Differs (suc n) (Some p) (Some m))

-- the next line of a list
abbrev pub first : List (List ℕ) → Option (List ℕ)
first [] = None
first (x ∷ xs) = Some x

-- what is found after n equal lines by the next line of each list
abbrev pub found : ℕ → Option (List ℕ) → Option (List ℕ) → Verdict
found n None None = Clean n
found n p m = Differs (suc n) p m

-- The first place at which two lists differ, from 1, with what each has there: all before it are
-- the same, and no place where they don't differ is told. Where they are equal, how many lines
-- there are.
pub data IsFirstDifference (ps ms : List (List ℕ)) : Verdict → Type 0 where
  none : ps ≡ ms → IsFirstDifference ps ms (Clean (length ps))
  at : (k : ℕ) → ((j : ℕ) → j < k → slice_get ps j ≡ slice_get ms j) → slice_get ps k ≢ slice_get ms k → IsFirstDifference ps ms (Differs (suc k) (slice_get ps k) (slice_get ms k))

-- whether a difference is found
abbrev pub differs : Verdict → Bool
differs (Clean n) = false
differs (Differs k p m) = true

-- where both have lines, the first ones differ
abbrev pub ArePart : List (List ℕ) → List (List ℕ) → Type 0
ArePart (p ∷ ps) (m ∷ ms) = bytes_eq p m ≡ false
ArePart ps ms = ⊤

-- So many equal lines, and what each list has after them, are all that matters of these two lists,
-- whatever comes behind them.
pub record Compares (equal : ℕ) (plain multi ps ms : List (List ℕ)) : Type 0 where
  pub part : ArePart plain multi
  pub goes : (xs ys : List (List ℕ)) → compared 0 (ps ++ xs) (ms ++ ys) ≡ compared equal (plain ++ xs) (multi ++ ys)

-- a list to which this is added, where it is that of this side
abbrev pub plain_more : {X : Type 0} → Side → List X → List X → List X
plain_more Plain xs ys = xs ++ ys
plain_more Multi xs ys = xs

abbrev pub multi_more : {X : Type 0} → Side → List X → List X → List X
multi_more Plain xs ys = xs
multi_more Multi xs ys = xs ++ ys

-- What becomes of a line that comes to one list, where each list has these lines more.
pub data ComparesNext (own other : List (List ℕ)) (equal : ℕ) (line : List ℕ) : List (List ℕ) → List (List ℕ) → ℕ → Type 0 where
  -- the other list has no such line yet
  waits : other ≡ [] → ComparesNext own other equal line (own ++ line ∷ []) other equal
  -- it is the other list's next line
  agrees : (rest : List (List ℕ)) → own ≡ [] → other ≡ line ∷ rest → ComparesNext own other equal line own rest (equal + 1)
  -- it isn't: the two lines are the first difference, and no other is kept
  parts : (next : List ℕ) (rest : List (List ℕ)) → own ≡ [] → other ≡ next ∷ rest → next ≢ line → ComparesNext own other equal line (line ∷ []) (next ∷ []) equal
  -- the lists differ already
  apart : 0 < length own → 0 < length other → ComparesNext own other equal line own other equal

-- What a comparison keeps of two lists of lines: how many are equal at the beginning, and what each
-- list has after them, as far as it matters.
pub record Kept : Type 0 where
  pub equal : ℕ
  pub plain : List (List ℕ)
  pub multi : List (List ℕ)

abbrev pub coded_kept : Coded Kept
coded_kept =
    code_by (ℕ × (List (List ℕ) × List (List ℕ))) (coded× coded_ℕ (coded× (coded_list (coded_list coded_ℕ)) (coded_list (coded_list coded_ℕ))))
    (λ k. (k.equal, (k.plain, k.multi))) (λ p. record { equal = p.0; plain = p.1.0; multi = p.1.1 }) (λ _. refl)

-- a comparison of these two lists of lines
abbrev pub ComparesAt : Kept → List (List ℕ) → List (List ℕ) → Type 0
ComparesAt c ps ms = Compares c.equal c.plain c.multi ps ms

-- a comparison for each level
pub record CompareAll (cs : List Kept) (ps ms : ℕ → List (List ℕ)) : Type 0 where
  pub each : (l : ℕ) (d : Kept) → l < length cs → ComparesAt (slice_index_or cs l d) (ps l) (ms l)

-- A line that comes next in both texts under a word was taken: what is left of them, and the
-- comparison before and after.
pub record TakesSame (word plain multi plain_rest multi_rest : List ℕ) (before now : Kept) : Type 0 where
  pub line : List ℕ
  pub in_plain : own_contents word plain ≡ line ∷ own_contents word plain_rest
  pub in_multi : own_contents word multi ≡ line ∷ own_contents word multi_rest
  pub shorter : length plain_rest < length plain
  pub counted : (ps ms : List (List ℕ)) → ComparesAt before ps ms → ComparesAt now (ps ++ line ∷ []) (ms ++ line ∷ [])

-- One of the levels below n whose lists of lines differ.
pub record DiffersAt (n : ℕ) (ps ms : ℕ → List (List ℕ)) : Type 0 where
  pub level : ℕ
  pub within : level < n
  pub other : ps level ≢ ms level
