-- Activations and their records.
use Rattle.std.proofs.Common.{◌≡◌, ℕ, ◌+◌, ◌<◌, ⊎_elim, Bool, true, false, cond, nat_lt, ltb-false, Option, None, List, [], ◌∷◌, ◌++◌, map, take, drop, length, get_or, set, sum_by, refl, sym, ap, subst, ◌∙◌, arith, length-append}
use Rattle.std.specs.FinMap as finmap
use Rattle.std.specs.Option.{ForSome}
use Rattle.std.specs.Ordering.{nat_cmp}
use Rattle.std.specs.Cmp.Lexicographic.{slice_cmp, nat_list_cmp_total}
use Rattle.std.proofs.Math.ListN.{get_or-map}
use Rattle.std.proofs.Math.Seq.{get_or-append_seam, set-append_seam}
use Rattle.std.proofs.lemmas.Bool.{cases_lt}
use Rattle.std.proofs.lemmas.List.{length-map, map-set, map_push, take-map, take_more, take-append-drop, length-take, length-take-le, get_or-take, get_or_past}
use Rattle.std.proofs.lemmas.List.Sums.{sum_by-cons, sum_by-append, sum_by_push}
use Rattle.ff_tree.specs.Spelled.{IsVar}
use Rattle.ff_value.specs.Spelled.{IsWellSpelledVal}
use Rattle.ff_value.specs.declared.ids.ActId.{ActId}
use Rattle.ff_value.specs.declared.value.Val.{Val}
use Rattle.ff_machine.specs.Faults.{limit_unless}
use Rattle.ff_machine.specs.declared.limits.TheConstants.{MOST_ACTS, MOST_VARS}
use Rattle.ff_machine.specs.Windows.{Activation, Vars, act_at, vars_of, no_act, set_var, declare_fault, count_vars}
use Rattle.ff_machine.specs.Alone.{IsAct, AreActs}
use Rattle.ff_machine.proofs.Lists.{at_pushed}
use Rattle.ff_machine.proofs.Maps.{entries-empty}
use Rattle.ff_machine.proofs.ActChanges.{no_act_valid}
use Rattle.ff_records.specs.Records.{variable, act_rec, act_recs}
use Rattle.ff_records.specs.declared.records.Variable.{Variable}
use Rattle.ff_records.specs.declared.records.ActRec.{ActRec}
use Rattle.ff_records.proofs.Rising as rising
use Rattle.ff_acts.specs.Recorded.{entry_of, Rise}

-- Variables and their entries.

same_vars : (vs : List Variable) → map variable (map entry_of vs) ≡ vs
same_vars [] = refl
same_vars (v ∷ vs) = ap (λ rest. v ∷ rest) (same_vars vs)

same_entries : (es : List (List ℕ × Val)) → map entry_of (map variable es) ≡ es
same_entries [] = refl
same_entries (e ∷ es) = ap (λ rest. e ∷ rest) (same_entries es)

entries_are : (m : Vars) (vs : List Variable) → map variable (finmap.entries m) ≡ vs → finmap.entries m ≡ map entry_of vs
entries_are m vs e = sym (same_entries (finmap.entries m)) ∙ ap (map entry_of) e

vars_are : (m : Vars) (vs : List Variable) → finmap.entries m ≡ map entry_of vs → map variable (finmap.entries m) ≡ vs
vars_are m vs e = ap (map variable) e ∙ same_vars vs

-- How many variables records have.

abbrev count_recs : List ActRec → ℕ
count_recs rs = sum_by (λ r. length r.vars) rs

counted : (acts : List Activation) → count_vars acts ≡ count_recs (act_recs acts)
counted [] = refl
counted (a ∷ acts) =
    let here : finmap.len a.vars ≡ length (map variable (finmap.entries a.vars)) = finmap.len-entries a.vars ∙ sym (length-map (finmap.entries a.vars) variable) in
    let left = sum_by-cons (λ (act : Activation). finmap.len act.vars) a acts in
    let right = sum_by-cons (λ (r : ActRec). length r.vars) (act_rec a) (act_recs acts) in
    left ∙ ap (λ n. n + count_vars acts) here ∙ ap (λ n. length (map variable (finmap.entries a.vars)) + n) (counted acts) ∙ sym right

-- The last activation, and the record of it.

module _ (acts : List Activation) (rs : List ActRec) (r : ActRec) (is : act_recs acts ≡ rs ++ r ∷ []) where
  pub count : length acts ≡ length rs + 1
  count = sym (length-map acts act_rec) ∙ ap length is ∙ length-append rs (r ∷ [])

  variables : count_vars acts ≡ count_recs rs + length r.vars
  variables = counted acts ∙ ap count_recs is ∙ sum_by_push (λ (q : ActRec). length q.vars) rs r

  module _ (a : ActId) (at : a.0 ≡ length rs) where
    last_is : act_rec (act_at acts a) ≡ r
    last_is =
        sym (get_or-map act_rec acts a.0 no_act)
        ∙ ap (λ (xs : List ActRec). get_or xs a.0 (act_rec no_act)) is
        ∙ ap (λ n. get_or (rs ++ r ∷ []) n (act_rec no_act)) at
        ∙ get_or-append_seam rs r [] (act_rec no_act)

    parent_is : (act_at acts a).parent ≡ r.parent
    parent_is = ap (λ (q : ActRec). q.parent) last_is

    pub last_entries : finmap.entries (vars_of acts a) ≡ map entry_of r.vars
    last_entries = entries_are (vars_of acts a) r.vars (ap (λ (q : ActRec). q.vars) last_is)

    set_last : (x : List ℕ) (v : Val) (vs : List Variable) → finmap.entries (finmap.insert (vars_of acts a) x v) ≡ map entry_of vs → act_recs (set_var acts a x v) ≡ rs ++ record { parent = r.parent; vars = vs } ∷ []
    set_last x v vs e =
        let new : Activation = record (act_at acts a) { vars = finmap.insert (vars_of acts a) x v } in
        map-set act_rec acts a.0 new
        ∙ ap (λ (xs : List ActRec). set xs a.0 (act_rec new)) is
        ∙ ap (λ n. set (rs ++ r ∷ []) n (act_rec new)) at
        ∙ set-append_seam rs r [] (act_rec new)
        ∙ ap (λ (p : Option ActId). rs ++ record { parent = p; vars = map variable (finmap.entries (finmap.insert (vars_of acts a) x v)) } ∷ []) parent_is
        ∙ ap (λ (ws : List Variable). rs ++ record { parent = r.parent; vars = ws } ∷ []) (vars_are (finmap.insert (vars_of acts a) x v) vs e)

-- An activation more.

pub act_pushed : (acts : List Activation) (parent : Option ActId) → act_recs (acts ++ record { parent = parent; vars = finmap.empty } ∷ []) ≡ act_recs acts ++ record { parent = parent; vars = [] } ∷ []
act_pushed acts parent =
    let new : Activation = record { parent = parent; vars = finmap.empty } in
    map_push act_rec acts new
    ∙ ap (λ (es : List (List ℕ × Val)). act_recs acts ++ record { parent = parent; vars = map variable es } ∷ []) (entries-empty (slice_cmp nat_cmp))

pub pushed_valid : (acts : List Activation) (parent : Option ActId) → AreActs acts → length acts < MOST_ACTS → ForSome parent (λ p. p.0 < length acts) → AreActs (acts ++ record { parent = parent; vars = finmap.empty } ∷ [])
pushed_valid acts parent are room before =
    let new : Activation = record { parent = parent; vars = finmap.empty } in
    record {
      each = λ a. at_pushed IsAct acts a.0 new no_act (record { parent = before; vars = (no_act_valid (length acts)).vars }) (are.each a);
      few = omega (arith, length-append acts (new ∷ []), room);
      few_vars = omega (arith, sum_by_push (λ (act : Activation). finmap.len act.vars) acts new, finmap.len-empty (slice_cmp nat_cmp) Val, are.few_vars);
    }

-- The first of valid activations are valid.

pub first_valid : (v : List Activation) (n : ℕ) → AreActs v → AreActs (take n v)
first_valid v n are =
    let sums = sum_by-append (λ (act : Activation). finmap.len act.vars) (take n v) (drop n v) in
    let whole = ap count_vars (take-append-drop n v) in
    record {
      each = λ a. ⊎_elim
          (λ below. subst (IsAct a.0) (sym (get_or-take n v a.0 no_act below)) (are.each a))
          (λ past. subst (IsAct a.0) (sym (get_or_past (take n v) a.0 no_act (omega (arith, past, length-take n v)))) (no_act_valid a.0))
          (cases_lt a.0 n);
      few = omega (arith, length-take n v, are.few);
      few_vars = omega (arith, sums, whole, are.few_vars);
    }

pub first_recs : (v : List Activation) (recs : List ActRec) (i : ℕ) (x : ActRec) → act_recs v ≡ recs → i < length recs → x ≡ get_or recs i x → act_recs (take (i + 1) v) ≡ take i recs ++ x ∷ []
first_recs v recs i x has within is =
    sym (take-map act_rec (i + 1) v)
    ∙ ap (take (i + 1)) has
    ∙ take_more recs i x within
    ∙ ap (λ y. take i recs ++ y ∷ []) (sym is)

-- The variables of a record, one after another.

is_less : (a b : ℕ) → a < b → nat_lt a b ≡ true
is_less a b less = elim (nat_lt a b) as (λ c. nat_lt a b ≡ c → c ≡ true) [
  | true ↦ λ e. refl
  | false ↦ λ e. absurd (omega (arith, less, ltb-false a b e))
] refl

if_room : (there room : Bool) → room ≡ true → cond there true room ≡ true
if_room true room e = refl
if_room false room e = e

module _ (rs : List ActRec) (r : ActRec) (a : ActId) (at : a.0 ≡ length rs) where
  -- where valid activations end in the record
  module _ (v : List Activation) (are : AreActs v) (has : act_recs v ≡ rs ++ r ∷ []) where
    pub has_room : length rs < MOST_ACTS
    has_room = omega (arith, count v rs r has, are.few)

    pub parent_before : ForSome r.parent (λ p. p.0 < length rs)
    parent_before = subst (λ n. ForSome r.parent (λ p. p.0 < n)) at (subst (λ (p : Option ActId). ForSome p (λ p. p.0 < a.0)) (parent_is v rs r has a at) (are.each a).parent)

    pub vars_rise : Rise r.vars
    vars_rise = rising.entries_rise nat_list_cmp_total entry_of (vars_of v a) r.vars (last_entries v rs r has a at)

  module _ (k : ℕ) (x : Variable) (within : k < length r.vars) (is : x ≡ get_or r.vars k x) (rise : Rise r.vars) (acts : List Activation) (so_far : act_recs acts ≡ rs ++ record { parent = r.parent; vars = take k r.vars } ∷ []) where
    -- one variable more
    pub one_more : act_recs (set_var acts a x.name x.value) ≡ rs ++ record { parent = r.parent; vars = take (k + 1) r.vars } ∷ []
    one_more =
        let before : ActRec = record { parent = r.parent; vars = take k r.vars } in
        set_last acts rs before so_far a at x.name x.value (take (k + 1) r.vars)
        (rising.one_more nat_list_cmp_total entry_of r.vars k x within is rise (vars_of acts a) (last_entries acts rs before so_far a at))

    module _ (v : List Activation) (are : AreActs v) (has : act_recs v ≡ rs ++ r ∷ []) where
      pub is_valid : IsVar x.name × IsWellSpelledVal x.value
      is_valid = (are.each a).vars x.name x.value (rising.found_there nat_list_cmp_total entry_of r.vars k x within is rise (vars_of v a) (last_entries v rs r has a at))

      fewer : count_vars acts < MOST_VARS
      fewer =
          let before : ActRec = record { parent = r.parent; vars = take k r.vars } in
          omega (arith, variables v rs r has, variables acts rs before so_far, length-take-le k r.vars (omega (arith, within)), within, are.few_vars)

      pub may_declare_it : declare_fault acts a x.name ≡ None
      may_declare_it = ap limit_unless (if_room (finmap.contains_key (vars_of acts a) x.name) (nat_lt (count_vars acts) MOST_VARS) (is_less (count_vars acts) MOST_VARS fewer))
