-- An activation that gets its parameters one after another.
use Rattle.std.proofs.Common.{◌≡◌, ◌≢◌, ℕ, zero, suc, ◌+◌, ◌<◌, ◌≤◌, Bool, true, false, cond, nat_lt, nat_le, ◌&&◌, Some, None, List, [], ◌∷◌, ◌++◌, length, take, set, zip, refl, sym, ap, ◌∙◌, arith}
use Rattle.std.specs.List.{slice_get}
use Rattle.std.specs.Ordering.{nat_cmp}
use Rattle.std.specs.Cmp.Lexicographic.{slice_cmp, nat_list_cmp_total}
use Rattle.std.specs.FinMap as finmap
use Rattle.std.proofs.lemmas.Bool.Decides.{nat_tests}
use Rattle.std.proofs.lemmas.List.{set_at, get_or_push}
use Rattle.ff_tree.specs.Spelled.{AreParams, Differ}
use Rattle.ff_value.specs.declared.ids.ActId.{ActId}
use Rattle.ff_value.specs.declared.value.Val.{Val}
use Rattle.ff_value.specs.declared.fault.Fault.TheVariants as fault
use Rattle.ff_machine.specs.declared.limits.TheConstants.{MOST_ACTS, MOST_VARS}
use Rattle.ff_machine.specs.Faults.{limit_unless}
use Rattle.ff_machine.specs.Windows.{Activation, no_act, set_var, with_act, count_vars, call_fault}
use Rattle.ff_machine.proofs.Lists.{nth_holds}
use Rattle.ff_acts.proofs.Rows.{same, same_is, names_exact}

-- names that differ don't tie
apart : (x y : List ℕ) (b : Bool) → (y ≢ x) → same x y ≡ b → b ≡ false
apart x y true ne e = absurd (ne (sym (same_is x y e)))
apart x y false ne e = refl

-- a parameter is none of those before it
fresh : (xs : List (List ℕ)) (vs : List Val) (i : ℕ) (x : List ℕ) → Differ xs → slice_get xs i ≡ Some x → finmap.find (slice_cmp nat_cmp) x (zip (take i xs) (take i vs)) ≡ None
fresh [] vs i x d e = cc
fresh (y ∷ xs) vs zero x d e = refl
fresh (y ∷ xs) [] (suc i) x d e = refl
fresh (y ∷ xs) (w ∷ vs) (suc i) x d e =
    let other : same x y ≡ false = apart x y (same x y) (nth_holds (λ z. y ≢ z) xs i d.0 x e) refl in
    ap (λ b. cond b (Some w) (finmap.find (slice_cmp nat_cmp) x (zip (take i xs) (take i vs)))) other ∙ fresh xs vs i x d.1 e

zip_more : (xs : List (List ℕ)) (vs : List Val) (i : ℕ) (x : List ℕ) (v : Val) → slice_get xs i ≡ Some x → slice_get vs i ≡ Some v → zip (take (suc i) xs) (take (suc i) vs) ≡ zip (take i xs) (take i vs) ++ (x, v) ∷ []
zip_more [] vs i x v e f = cc
zip_more (y ∷ xs) [] i x v e f = cc
zip_more (y ∷ xs) (w ∷ vs) zero x v e f = let is : y ≡ x = cc in let has : w ≡ v = cc in ap (λ z. (z, w) ∷ []) is ∙ ap (λ u. (x, u) ∷ []) has
zip_more (y ∷ xs) (w ∷ vs) (suc i) x v e f = ap (λ rest. (y, w) ∷ rest) (zip_more xs vs i x v e f)

set_last : (acts : List Activation) (act : Activation) (a : ActId) (x : List ℕ) (v : Val) → length acts ≡ a.0 → set_var (acts ++ act ∷ []) a x v ≡ acts ++ record act { vars = finmap.insert act.vars x v } ∷ []
set_last acts act a x v e =
    ap (λ (is : Activation). let new : Activation = record is { vars = finmap.insert is.vars x v } in set (acts ++ act ∷ []) a.0 new) (get_or_push acts act no_act a.0 e)
    ∙ set_at acts act [] (record act { vars = finmap.insert act.vars x v }) a.0 e

-- the next parameter is declared
pub called_more : (acts : List Activation) (parent a : ActId) (xs : List (List ℕ)) (vs : List Val) (i : ℕ) (x : List ℕ) (v : Val) → AreParams xs → length acts ≡ a.0 → slice_get xs i ≡ Some x → slice_get vs i ≡ Some v
    → set_var (with_act acts parent (take i xs) (take i vs)) a x v ≡ with_act acts parent (take (i + 1) xs) (take (i + 1) vs)
called_more acts parent a xs vs i x v are long e f =
    let es = zip (take i xs) (take i vs) in
    let more : finmap.insert (finmap.from_entries es) x v ≡ finmap.from_entries (zip (take (suc i) xs) (take (suc i) vs)) =
    sym (ap (finmap.from_entries {R = slice_cmp nat_cmp}) (zip_more xs vs i x v e f) ∙ finmap.from_entries_push nat_list_cmp_total names_exact es x v (fresh xs vs i x are.differ e)) in
    let z : suc i ≡ i + 1 = omega arith in
    set_last acts (record { parent = Some parent; vars = finmap.from_entries es }) a x v long
    ∙ ap (λ m. acts ++ record { parent = Some parent; vars = m } ∷ []) more
    ∙ ap (λ k. with_act acts parent (take k xs) (take k vs)) z

-- Room for a call.

and_no : (b : Bool) → (b && false) ≡ false
and_no true = refl
and_no false = refl

pub full_of_acts : (acts : List Activation) (n : ℕ) → MOST_ACTS ≤ length acts → call_fault acts n ≡ Some fault.Limit
full_of_acts acts n h =
    let full : nat_lt (length acts) MOST_ACTS ≡ false = grind (arith, nat_tests) in
    ap (λ b. limit_unless (b && nat_le (count_vars acts + n) MOST_VARS)) full

pub full_of_vars : (acts : List Activation) (n : ℕ) → MOST_VARS < count_vars acts + n → call_fault acts n ≡ Some fault.Limit
full_of_vars acts n h =
    let full : nat_le (count_vars acts + n) MOST_VARS ≡ false = grind (arith, nat_tests) in
    ap (λ b. limit_unless (nat_lt (length acts) MOST_ACTS && b)) full ∙ ap limit_unless (and_no (nat_lt (length acts) MOST_ACTS))

pub has_room : (acts : List Activation) (n : ℕ) → length acts < MOST_ACTS → count_vars acts + n ≤ MOST_VARS → call_fault acts n ≡ None
has_room acts n h i =
    let acts_fit : nat_lt (length acts) MOST_ACTS ≡ true = grind (arith, nat_tests) in
    let vars_fit : nat_le (count_vars acts + n) MOST_VARS ≡ true = grind (arith, nat_tests) in
    ap (λ b. limit_unless (b && nat_le (count_vars acts + n) MOST_VARS)) acts_fit ∙ ap limit_unless vars_fit
