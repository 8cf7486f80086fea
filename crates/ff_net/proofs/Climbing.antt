-- Records whose domains never fall.
use Rattle.std.proofs.Common.{◌≡◌, ℕ, zero, suc, ◌+◌, ◌<◌, ◌≤◌, T, true, false, List, [], ◌∷◌, drop, take, length, get_or, refl, sym, ap, subst, ◌∙◌, arith}
use Rattle.std.specs.declared.cmp.Ordering.{Ordering}
use Rattle.std.specs.declared.cmp.Ordering.TheVariants.{Less, Equal, Greater}
use Rattle.std.specs.List.{AllByRecursion}
use Rattle.std.specs.Ordering.{nat_cmp, is_lt, ordering_reverse}
use Rattle.std.specs.Cmp.Lexicographic.{slice_cmp, nat_list_cmp_total}
use Rattle.std.proofs.lemmas.List.{drop_more, length-drop}
use Rattle.std.proofs.lemmas.List.Elements.{All-get_or, All-from_recursion}
use Rattle.ff_records.specs.declared.records.AskRec.{AskRec}
use Rattle.ff_net.specs.Asks.{NotBefore, Climb}

one_climbs : (rs : List AskRec) → length rs ≤ 1 → Climb rs
one_climbs [] few = tt
one_climbs (r ∷ []) few = (tt, tt)
one_climbs (r ∷ s ∷ rs) few = absurd (omega (arith, few))

-- the last record
pub last_climbs : (rs : List AskRec) (i : ℕ) → i + 1 ≡ length rs → Climb (drop i rs)
last_climbs rs i e = one_climbs (drop i rs) (omega (arith, length-drop i rs, e))

climb_drop : (i : ℕ) (rs : List AskRec) → Climb rs → Climb (drop i rs)
climb_drop zero rs h = h
climb_drop (suc i) [] h = h
climb_drop (suc i) (r ∷ rs) h = climb_drop i rs h.1

no_less : (r : Ordering) → is_lt r ≡ false → r ≡ Less → ⊥
no_less r e less = subst T e (subst (λ s. T (is_lt s)) (sym less) tt)

odds : (x y z : List ℕ) → is_lt (slice_cmp nat_cmp y x) ≡ false → is_lt (slice_cmp nat_cmp z y) ≡ false → slice_cmp nat_cmp z x ≡ Less → (r : Ordering) → slice_cmp nat_cmp y x ≡ r → ⊥
odds x y z yx zy zx Less e = no_less (slice_cmp nat_cmp y x) yx e
odds x y z yx zy zx Equal e =
    let o = nat_list_cmp_total in
    no_less (slice_cmp nat_cmp z y) zy (o.antisymm z y ∙ ap ordering_reverse (o.congr y x z e ∙ o.antisymm x z ∙ ap ordering_reverse zx))
odds x y z yx zy zx Greater e =
    let o = nat_list_cmp_total in
    no_less (slice_cmp nat_cmp z y) zy (o.trans z x y zx (o.antisymm x y ∙ ap ordering_reverse e))

-- what comes no earlier than a domain comes no earlier than one before that
not_before : (x y z : List ℕ) → is_lt (slice_cmp nat_cmp y x) ≡ false → is_lt (slice_cmp nat_cmp z y) ≡ false → is_lt (slice_cmp nat_cmp z x) ≡ false
not_before x y z yx zy =
    elim (slice_cmp nat_cmp z x) as (λ r. slice_cmp nat_cmp z x ≡ r → is_lt r ≡ false) [
      | Less ↦ λ zx. absurd (odds x y z yx zy zx (slice_cmp nat_cmp y x) refl)
      | Equal ↦ λ zx. refl
      | Greater ↦ λ zx. refl
    ] refl

all_not_before : (x y : List ℕ) (rs : List AskRec) → is_lt (slice_cmp nat_cmp y x) ≡ false → AllByRecursion (NotBefore y) rs → AllByRecursion (NotBefore x) rs
all_not_before x y [] e h = tt
all_not_before x y (r ∷ rs) e h = (not_before x y r.domain e h.0, all_not_before x y rs e h.1)

module _ (rs : List AskRec) (i j : ℕ) (next : j ≡ i + 1) (within : j < length rs) (x y : AskRec) (here : x ≡ get_or rs i x) (there : y ≡ get_or rs j y) where
  from_y : drop j rs ≡ y ∷ drop (j + 1) rs
  from_y = drop_more rs j y within ∙ ap (λ r. r ∷ drop (j + 1) rs) (sym there)

  from_x : drop i rs ≡ x ∷ y ∷ drop (j + 1) rs
  from_x =
      drop_more rs i x (omega (arith, next, within))
      ∙ ap (λ r. r ∷ drop (i + 1) rs) (sym here)
      ∙ ap (λ n. x ∷ drop n rs) (sym next)
      ∙ ap (λ (ys : List AskRec). x ∷ ys) from_y

  -- one record more before those that don't fall
  pub more_climb : is_lt (slice_cmp nat_cmp y.domain x.domain) ≡ false → Climb (drop j rs) → Climb (drop i rs)
  more_climb e climb =
      let rest = subst Climb from_y climb in
      subst Climb (sym from_x) ((e, all_not_before x.domain y.domain (drop (j + 1) rs) e rest.0), rest)

  -- two that fall
  pub falls : is_lt (slice_cmp nat_cmp y.domain x.domain) ≡ true → Climb rs → ⊥
  falls less climb = let both = subst Climb from_x (climb_drop i rs climb) in subst T (sym less ∙ both.0.0) tt

at_place : (P : AskRec → Type 0) (rs : List AskRec) (n : ℕ) (x : AskRec) → n < length rs → x ≡ get_or rs n x → AllByRecursion P rs → P x
at_place P rs n x within is all = subst P (sym is) (All-get_or P rs n x within (All-from_recursion P rs all))

-- the records before one come no later
pub climb_before : (rs : List AskRec) (i : ℕ) (x : AskRec) → i < length rs → x ≡ get_or rs i x → Climb rs → AllByRecursion (λ r. is_lt (slice_cmp nat_cmp x.domain r.domain) ≡ false) (take i rs)
climb_before [] i x within is climb = absurd (omega (arith, within))
climb_before (r ∷ rs) zero x within is climb = tt
climb_before (r ∷ rs) (suc i) x within is climb = (at_place (NotBefore r.domain) rs i x (omega (arith, within)) is climb.0, climb_before rs i x (omega (arith, within)) is climb.1)
