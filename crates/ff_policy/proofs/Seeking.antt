-- The key that stands for a domain, found one key after another.
use Rattle.std.proofs.Common.{◌≡◌, ℕ, ◌+◌, ◌<◌, ◌≤◌, List, ◌∷◌, length, drop, get_or, Option, Some, None, Bool, true, false, cond, nat_le, if◌then◌else◌, refl, sym, ap, ◌∙◌, arith}
use Rattle.std.proofs.lemmas.Bool.Decides.{nat_tests}
use Rattle.std.proofs.lemmas.List.{drop_more, drop_all}
use Rattle.std.specs.List.{find}
use Rattle.ff_policy.specs.Assignment.{Key, covers, longer, longer_of, longest}

module _ {X : Type 0} (all : List X) where
  cut_at : (i : ℕ) (x : X) → i < length all → x ≡ get_or all i x → drop i all ≡ x ∷ drop (i + 1) all
  cut_at i x within is = drop_more all i x within ∙ ap (λ y. y ∷ drop (i + 1) all) (sym is)

-- ---- the first that passes a test

-- the first of all that passes is the first of those from a place on
pub record Seeks {X : Type 0} (test : X → Bool) (all : List X) (i : ℕ) : Type 0 where
  pub is : find test all ≡ find test (drop i all)

module _ {X : Type 0} (test : X → Bool) (all : List X) where
  pub seek_start : Seeks test all 0
  seek_start = record { is = refl }

  seek_to : (i : ℕ) (x : X) (b : Bool) → Seeks test all i → i < length all → x ≡ get_or all i x → test x ≡ b → find test all ≡ cond b (Some x) (find test (drop (i + 1) all))
  seek_to i x b given within is passes = given.is ∙ ap (find test) (cut_at all i x within is) ∙ ap (λ b. cond b (Some x) (find test (drop (i + 1) all))) passes

  pub seek_step : (i : ℕ) (x : X) → Seeks test all i → i < length all → x ≡ get_or all i x → test x ≡ false → Seeks test all (i + 1)
  seek_step i x given within is fails = record { is = seek_to i x false given within is fails }

  pub seek_found : (i : ℕ) (x : X) → Seeks test all i → i < length all → x ≡ get_or all i x → test x ≡ true → Some x ≡ find test all
  seek_found i x given within is passes = sym (seek_to i x true given within is passes)

  pub seek_none : (i : ℕ) → Seeks test all i → length all ≤ i → None ≡ find test all
  seek_none i given far = sym (given.is ∙ ap (find test) (drop_all i all far))

-- ---- the longest that covers a domain

abbrev merged : Option Key → Option Key → Option Key
merged None found = found
merged (Some best) found = Some (longer best found)

choose_same : (a b c : ℕ) (x y z : Key) → length x.key ≡ a → length y.key ≡ b → length z.key ≡ c
    → longer x (Some (longer y (Some z))) ≡ longer (longer x (Some y)) (Some z)
choose_same a b c x y z is_a is_b is_c = go (nat_le (length z.key) (length y.key)) (nat_le (length y.key) (length x.key)) (nat_le (length z.key) (length x.key)) refl refl refl
  where
    go : (zy yx zx : Bool) → nat_le (length z.key) (length y.key) ≡ zy → nat_le (length y.key) (length x.key) ≡ yx → nat_le (length z.key) (length x.key) ≡ zx
        → longer x (Some (if zy then y else z)) ≡ longer (if yx then x else y) (Some z)
    go true true true e f g = ap (λ b. if b then x else y) f ∙ sym (ap (λ b. if b then x else z) g)
    go true true false e f g = absurd (grind (arith, nat_tests))
    go true false true e f g = ap (λ b. if b then x else y) f ∙ sym (ap (λ b. if b then y else z) e)
    go true false false e f g = ap (λ b. if b then x else y) f ∙ sym (ap (λ b. if b then y else z) e)
    go false true true e f g = refl
    go false true false e f g = refl
    go false false true e f g = absurd (grind (arith, nat_tests))
    go false false false e f g = ap (λ b. if b then x else z) g ∙ sym (ap (λ b. if b then y else z) e)

merged_more : (best : Option Key) (one : Key) (found : Option Key) → merged best (Some (longer one found)) ≡ merged (Some (longer_of best one)) found
merged_more None one found = refl
merged_more (Some best) one None = refl
merged_more (Some best) one (Some other) = ap Some (choose_same (length best.key) (length one.key) (length other.key) best one other refl refl refl)

merged_none : (best : Option Key) → merged best None ≡ best
merged_none None = refl
merged_none (Some best) = refl

-- the longest of all is the best so far or a longer one from a place on
pub record Longs (domain : List ℕ) (all : List Key) (best : Option Key) (i : ℕ) : Type 0 where
  pub is : longest domain all ≡ merged best (longest domain (drop i all))

module _ (domain : List ℕ) (all : List Key) where
  pub long_start : Longs domain all None 0
  long_start = record { is = refl }

  long_to : (best : Option Key) (i : ℕ) (one : Key) (b : Bool) → Longs domain all best i → i < length all → one ≡ get_or all i one → covers one.key domain ≡ b
      → longest domain all ≡ merged best (if b then Some (longer one (longest domain (drop (i + 1) all))) else longest domain (drop (i + 1) all))
  long_to best i one b given within is passes =
      given.is ∙ ap (λ (ks : List Key). merged best (longest domain ks)) (cut_at all i one within is)
      ∙ ap (λ b. merged best (if b then Some (longer one (longest domain (drop (i + 1) all))) else longest domain (drop (i + 1) all))) passes

  pub long_step : (best : Option Key) (i : ℕ) (one new : Key) → Longs domain all best i → i < length all → one ≡ get_or all i one → covers one.key domain ≡ true → new ≡ longer_of best one → Longs domain all (Some new) (i + 1)
  long_step best i one new given within is passes better = record {
    is = long_to best i one true given within is passes ∙ merged_more best one (longest domain (drop (i + 1) all))
        ∙ ap (λ (k : Key). merged (Some k) (longest domain (drop (i + 1) all))) (sym better);
  }

  pub long_pass : (best : Option Key) (i : ℕ) (one : Key) → Longs domain all best i → i < length all → one ≡ get_or all i one → covers one.key domain ≡ false → Longs domain all best (i + 1)
  long_pass best i one given within is fails = record { is = long_to best i one false given within is fails }

  pub long_done : (best : Option Key) (i : ℕ) → Longs domain all best i → length all ≤ i → best ≡ longest domain all
  long_done best i given far = sym (given.is ∙ ap (λ (ks : List Key). merged best (longest domain ks)) (drop_all i all far) ∙ merged_none best)
