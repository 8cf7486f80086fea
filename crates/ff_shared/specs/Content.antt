-- Equality of content: a test that decides `≡` at any type whose values have a code.
use Rattle.std.specs.Prelude.{◌≡◌, Bool, true, false, ◌&&◌, nat_eq, refl, List, IsTrue, ◌↔◌}
use Rattle.std.specs.Coded.{Coded}
use Rattle.std.specs.Bool.{Decides, one_answer}
use Rattle.std.specs.Cmp.{IsEquivalence, IsPartialEquivalence, decided, partial_equiv_from_equiv, unsigned_Decides}
use Rattle.std.specs.Cmp.Lexicographic.{pointwise, pointwise_decides}
use Rattle.std.proofs.Common.{ap}
use base.Stored.{Gv, gnil, gnum, gcons}

-- whether two codes are the same
unfoldable pub same_code : Gv → Gv → Bool
same_code gnil gnil = true
same_code (gnum m) (gnum n) = nat_eq m n
same_code (gcons a b) (gcons c d) = same_code a c && same_code b d
same_code _ _ = false

-- whether two values have the same content
abbrev pub same_content : {A : Type 0} → Coded A → A → A → Bool
same_content c x y = same_code (c.code x) (c.code y)

both_true : (a b : Bool) → a && b ≡ true → (a ≡ true) × (b ≡ true)
both_true true true e = (refl, refl)
both_true true false e = cc
both_true false b e = cc

code_from : (x y : Gv) → same_code x y ≡ true → x ≡ y
unfolding same_code
code_from gnil gnil e = refl
code_from (gnum m) (gnum n) e = ap gnum ((unsigned_Decides m n).0 e)
code_from (gcons a b) (gcons c d) e =
    let halves = both_true (same_code a c) (same_code b d) e in
    let left : a ≡ c = code_from a c halves.0 in
    let right : b ≡ d = code_from b d halves.1 in
    cc
code_from gnil (gnum n) e = cc
code_from gnil (gcons c d) e = cc
code_from (gnum m) gnil e = cc
code_from (gnum m) (gcons c d) e = cc
code_from (gcons a b) gnil e = cc
code_from (gcons a b) (gnum n) e = cc

code_refl : (x : Gv) → same_code x x ≡ true
unfolding same_code
code_refl gnil = refl
code_refl (gnum n) = (unsigned_Decides n n).1 refl
code_refl (gcons a b) =
    let left : same_code a a ≡ true = code_refl a in
    let right : same_code b b ≡ true = code_refl b in
    rw (left, right)

-- the test is true exactly where the values are equal
pub same_content-Decides : {A : Type 0} (c : Coded A) (x y : A) → Decides (same_content c x y) (x ≡ y)
same_content-Decides c x y = (λ e. c.inj x y (code_from (c.code x) (c.code y) e), λ e. rw e (code_refl (c.code y)))

-- what decides the same is the same answer
pub same_content-is : {A : Type 0} (c : Coded A) (x y : A) (b : Bool) → IsTrue b ↔ (x ≡ y) → b ≡ same_content c x y
same_content-is c x y b d = one_answer b (same_content c x y) d (same_content-Decides c x y)

-- the laws of a comparison by content
pub same_content-equiv : {A : Type 0} (c : Coded A) → IsEquivalence (same_content c)
same_content-equiv c = decided (same_content c) (same_content-Decides c)

pub same_content-per : {A : Type 0} (c : Coded A) → IsPartialEquivalence (same_content c)
same_content-per c = partial_equiv_from_equiv (same_content-equiv c)

-- where the items' test decides equality, so does that of lists
pub same_items_exactly : {A : Type 0} (test : A → A → Bool) → ((x y : A) → Decides (test x y) (x ≡ y))
    → (xs ys : List A) (b : Bool) → b ≡ pointwise test xs ys → IsTrue b ↔ (xs ≡ ys)
same_items_exactly test decides xs ys b e = rw e (pointwise_decides decides xs ys)
