-- The variables of a new activation: each parameter has its own argument, since parameters differ.
use Rattle.std.proofs.Common.{◌≡◌, ◌≢◌, ℕ, zero, suc, ◌+◌, Bool, true, false, cond, Some, None, List, [], ◌∷◌, length, slice_get, is_some, option_and_then, slice_index_or, arith, refl, sym, subst, ap, ◌∙◌}
use Rattle.std.specs.declared.cmp.Ordering.{Ordering}
use Rattle.std.specs.declared.cmp.Ordering.TheVariants.{Equal}
use Rattle.std.specs.Cmp.{eq_by_cmp_equiv}
use Rattle.std.specs.Cmp.Lexicographic.{slice_cmp, nat_list_cmp_total}
use Rattle.std.specs.List.{AllByRecursion, zip}
use Rattle.std.specs.Ordering.{nat_cmp, eq_by_cmp, is_eq}
use Rattle.std.specs.FinMap as finmap
use Rattle.std.proofs.Math.Seq.{get_or-append_seam}
use Rattle.std.proofs.lemmas.List.Sums.{sum_by-append}
use Rattle.std.proofs.lemmas.Map.Lookups.{exact_bytes}
use Rattle.ff_tree.specs.Spelled.{AreParams, Differ}
use Rattle.ff_value.specs.declared.value.Val.{Val}
use Rattle.ff_value.specs.declared.ids.ActId.{ActId}
use Rattle.ff_machine.specs.Windows.{Vars, Activation, no_act, act_at, vars_of, holder, holder_within, lookup, count_vars, with_act}
use Rattle.ff_machine.proofs.Lists.{nth_holds}

-- Keys.

abbrev same : List ℕ → List ℕ → Bool
same = eq_by_cmp (slice_cmp nat_cmp)

equal : (o : Ordering) → is_eq o ≡ true → o ≡ Equal
equal Equal h = refl
equal other h = cc

same_is : (x y : List ℕ) → same x y ≡ true → x ≡ y
same_is x y h = exact_bytes x y (equal (slice_cmp nat_cmp x y) h)

same_self : (x : List ℕ) → same x x ≡ true
same_self x = (eq_by_cmp_equiv nat_list_cmp_total).refl x

apart : (x y : List ℕ) → x ≢ y → same x y ≡ false
apart x y h = by (same x y) refl where
  by : (b : Bool) → same x y ≡ b → same x y ≡ false
  by true e = absurd (h (same_is x y e))
  by false e = e

-- The variables.

-- the parameters with their arguments
abbrev pub vars_with : List (List ℕ) → List Val → Vars
vars_with params args = finmap.from_entries (zip params args)

get_none : (x : List ℕ) → finmap.get {R = slice_cmp nat_cmp} (finmap.empty {X = Val}) x ≡ None
get_none x = finmap.get-empty (slice_cmp nat_cmp) x

get_first : (p : List ℕ) (ps : List (List ℕ)) (a : Val) (vs : List Val) (x : List ℕ) → finmap.get (vars_with (p ∷ ps) (a ∷ vs)) x ≡ cond (same x p) (Some a) (finmap.get (vars_with ps vs) x)
get_first p ps a vs x = finmap.get-insert nat_list_cmp_total (vars_with ps vs) p a x

-- each parameter has the argument at its place
pub param_has : (params : List (List ℕ)) (args : List Val) → Differ params → (i : ℕ) (x : List ℕ) (v : Val) → slice_get params i ≡ Some x → slice_get args i ≡ Some v → finmap.get (vars_with params args) x ≡ Some v
param_has [] args d i x v e f = cc
param_has (p ∷ ps) [] d i x v e f = cc
param_has (p ∷ ps) (a ∷ vs) d zero x v e f =
    let here : p ≡ x = cc in
    let its : a ≡ v = cc in
    get_first p ps a vs x ∙ ap (λ b. cond b (Some a) (finmap.get (vars_with ps vs) x)) (subst (λ y. same x y ≡ true) (sym here) (same_self x)) ∙ ap Some its
param_has (p ∷ ps) (a ∷ vs) d (suc i) x v e f =
    let other : p ≢ x = nth_holds (λ y. p ≢ y) ps i d.0 x e in
    get_first p ps a vs x ∙ ap (λ b. cond b (Some a) (finmap.get (vars_with ps vs) x)) (apart x p (λ h. other (sym h))) ∙ param_has ps vs d.1 i x v e f

-- a name that is no parameter has no value
fresh : (p : List ℕ) (params : List (List ℕ)) (args : List Val) → AllByRecursion (λ y. p ≢ y) params → finmap.get (vars_with params args) p ≡ None
fresh p [] args h = get_none p
fresh p (k ∷ ks) [] h = get_none p
fresh p (k ∷ ks) (a ∷ vs) h =
    get_first k ks a vs p ∙ ap (λ b. cond b (Some a) (finmap.get (vars_with ks vs) p)) (apart p k h.0) ∙ fresh p ks vs h.1

-- there are vs many variables vs parameters
pub len_vars : (params : List (List ℕ)) (args : List Val) → Differ params → length params ≡ length args → finmap.len (vars_with params args) ≡ length params
len_vars [] args d e = finmap.len-empty (slice_cmp nat_cmp) Val
len_vars (p ∷ ps) [] d e = absurd (omega (arith, e))
len_vars (p ∷ ps) (a ∷ vs) d e =
    let rest = len_vars ps vs d.1 (omega (arith, e)) in
    let new = ap is_some (fresh p ps vs d.0) in
    finmap.len-insert nat_list_cmp_total (vars_with ps vs) p a
    ∙ ap (λ b. cond b (finmap.len (vars_with ps vs)) (finmap.len (vars_with ps vs) + 1)) new
    ∙ omega (arith, rest)

-- The activation.

-- a call declares as many variables as it has parameters
pub called_vars : (acts : List Activation) (env : ActId) (params : List (List ℕ)) (args : List Val) → AreParams params → length params ≡ length args
    → count_vars (with_act acts env params args) ≡ count_vars acts + length params
called_vars acts env params args are e =
    let new = len_vars params args are.differ e in
    let all = sum_by-append (λ act. finmap.len act.vars) acts (record { parent = Some env; vars = vars_with params args } ∷ []) in
    all ∙ omega (arith, new)

-- looked up in the new activation, each parameter has the argument at its place
pub call_has : (acts : List Activation) (env a : ActId) (params : List (List ℕ)) (args : List Val) (i : ℕ) (x : List ℕ) (v : Val) → AreParams params → a.0 ≡ length acts → slice_get params i ≡ Some x → slice_get args i ≡ Some v
    → lookup (with_act acts env params args) a x ≡ Some v
unfolding holder
call_has acts env a params args i x v are last e f =
    let all = with_act acts env params args in
    let vars_are : vars_of all a ≡ vars_with params args = ap (λ n. (slice_index_or all n no_act).vars) last ∙ ap (λ (act : Activation). act.vars) (get_or-append_seam acts (record { parent = Some env; vars = vars_with params args }) [] no_act) in
    let here : finmap.get (vars_of all a) x ≡ Some v = ap (λ (vars : Vars). finmap.get vars x) vars_are ∙ param_has params args are.differ i x v e f in
    ap (λ b. option_and_then (λ b. finmap.get (vars_of all b) x) (cond b (Some a) (option_and_then (λ p. holder_within a.0 all p x) (act_at all a).parent))) (ap is_some here) ∙ here
