-- Changes of variables and activations keep the activations valid.
use Rattle.std.proofs.Common.{◌≡◌, ℕ, zero, suc, ◌+◌, ◌-◌, ◌<◌, ◌≤◌, ◌⊎◌, inl, inr, ⊎_elim, Bool, true, false, cond, ltb, ltb-true, Option, Some, None, List, [], ◌∷◌, ◌++◌, length, slice_set, zip, All, is_some, option_and_then, arith, refl, sym, subst, ap, ◌∙◌, length-set, length-append}
use Rattle.std.proofs.lemmas.Bool.{false≢true, cases_lt, leb-true, and_parts}
use Rattle.std.proofs.lemmas.List.{get_or_past}
use Rattle.std.proofs.lemmas.List.Elements.{All-head, All-tail}
use Rattle.std.proofs.lemmas.List.Sums.{sum_by-set, sum_by_push}
use Rattle.std.specs.List.{AllByRecursion}
use Rattle.std.specs.Cmp.{Equal-is}
use Rattle.std.specs.Cmp.Lexicographic.{slice_cmp, nat_list_cmp_total}
use Rattle.std.specs.Ordering.{nat_cmp, eq_by_cmp}
use Rattle.std.specs.FinMap as finmap
use Rattle.ff_tree.specs.Spelled.{IsVar, AreParams}
use Rattle.ff_value.specs.declared.ids.ActId.{ActId}
use Rattle.ff_value.specs.declared.value.Val.{Val}
use Rattle.ff_value.specs.Spelled.{IsWellSpelledVal}
use Rattle.ff_machine.specs.declared.limits.TheConstants.{MOST_ACTS, MOST_VARS}
use Rattle.ff_machine.specs.Windows.{Activation, Vars, act_at, vars_of, no_act, set_var, may_declare, declare_fault, count_vars, holder_within, holder, assigned, with_act, call_fault}
use Rattle.ff_machine.specs.Alone.{IsAct, AreActs}
use Rattle.ff_machine.proofs.Changes.{within}
use Rattle.ff_machine.proofs.Lists.{at_set, at_pushed}

none_some : {A : Type 0} {x : A} → None ≡ Some x → ⊥
none_some e = cc

-- Variables.

-- two names that the order doesn't tell apart are equal
pub same_name : (x y : List ℕ) → eq_by_cmp (slice_cmp nat_cmp) x y ≡ true → x ≡ y
same_name x y e = finmap.slice_cmp-IsAntisymmetric finmap.nat_cmp-IsAntisymmetric x y ((Equal-is (slice_cmp nat_cmp x y)).0 e)

either_set : (b : Bool) (x y : List ℕ) (v u : Val) (old : Option Val) → (b ≡ true → y ≡ x) → cond b (Some v) old ≡ Some u → ((y ≡ x) × (u ≡ v)) ⊎ (old ≡ Some u)
either_set true x y v u old same e = inl (same refl, cc)
either_set false x y v u old same e = inr e

-- a variable after one was set is that one, or was there before
pub var_set : (vars : Vars) (x y : List ℕ) (v u : Val) → finmap.get (finmap.insert vars x v) y ≡ Some u → ((y ≡ x) × (u ≡ v)) ⊎ (finmap.get vars y ≡ Some u)
var_set vars x y v u e =
    either_set (eq_by_cmp (slice_cmp nat_cmp) y x) x y v u (finmap.get vars y) (same_name y x) (sym (finmap.get-insert nat_list_cmp_total vars x v y) ∙ e)

-- where one more variable is within the limit, or it is there, the count stays within it
few_after : (there : Bool) (count before after : ℕ) → cond there true (ltb count MOST_VARS) ≡ true → count ≤ MOST_VARS → before ≤ count → after ≡ cond there before (before + 1) → (count + after) - before ≤ MOST_VARS
few_after true count before after may few le e = omega (arith, e)
few_after false count before after may few le e = omega (arith, e, ltb-true count MOST_VARS may)

len_set : (acts : List Activation) (a : ActId) (x : List ℕ) (v : Val) → a.0 < length acts → may_declare acts a x ≡ true → count_vars acts ≤ MOST_VARS → count_vars (set_var acts a x v) ≤ MOST_VARS
len_set acts a x v lives may few =
    let old = finmap.len (vars_of acts a) in
    let new = finmap.len (finmap.insert (vars_of acts a) x v) in
    let sums = sum_by-set (λ act. finmap.len act.vars) acts a.0 (record (act_at acts a) { vars = finmap.insert (vars_of acts a) x v }) no_act lives in
    let alone = sum_by-set (λ act. finmap.len act.vars) acts a.0 no_act no_act lives in
    let least : old ≤ count_vars acts = omega (arith, alone, finmap.len-empty (slice_cmp nat_cmp) Val) in
    let bound = few_after (finmap.contains_key (vars_of acts a) x) (count_vars acts) old new may few least (finmap.len-insert nat_list_cmp_total (vars_of acts a) x v) in
    omega (arith, sums, bound)

act_set : (a : ℕ) (act : Activation) (x : List ℕ) (v : Val) → IsAct a act → IsVar x → IsWellSpelledVal v → IsAct a (record act { vars = finmap.insert act.vars x v })
act_set a act x v is is_var spelled = record {
  parent = is.parent;
  vars = λ y u e. ⊎_elim (λ h. (subst IsVar (sym h.0) is_var, subst IsWellSpelledVal (sym h.1) spelled)) (λ h. is.vars y u h) (var_set act.vars x y v u e);
}

-- a variable that is set, where there is room for it
pub acts_set : (acts : List Activation) (a : ActId) (x : List ℕ) (v : Val) → AreActs acts → a.0 < length acts → IsVar x → IsWellSpelledVal v → may_declare acts a x ≡ true → AreActs (set_var acts a x v)
acts_set acts a x v are lives is_var spelled may =
    let new : Activation = record (act_at acts a) { vars = finmap.insert (vars_of acts a) x v } in
    let size : length (slice_set acts a.0 new) ≡ length acts = length-set acts a.0 new in
    record {
      each = λ b. at_set IsAct acts a.0 b.0 new no_act (act_set a.0 (act_at acts a) x v (are.each a) is_var spelled) (are.each b);
      few = omega (arith, are.few, size);
      few_vars = len_set acts a x v lives may are.few_vars;
    }

-- a variable that is declared
pub acts_declared : (acts : List Activation) (a : ActId) (x : List ℕ) (v : Val) → AreActs acts → a.0 < length acts → IsVar x → IsWellSpelledVal v → declare_fault acts a x ≡ None → AreActs (set_var acts a x v)
acts_declared acts a x v are lives is_var spelled room = acts_set acts a x v are lives is_var spelled (within _ room)

-- The nearest variable.

found_here : (b : Bool) (here : ActId) (further : Option ActId) (c : ActId) (P : ActId → Type 0) → (b ≡ true → P here) → (further ≡ Some c → P c) → cond b (Some here) further ≡ Some c → P c
found_here true here further c P at up e = let same : here ≡ c = cc in subst P same (at refl)
found_here false here further c P at up e = up e

up_from : (f : ActId → Option ActId) (o : Option ActId) (b : ActId) (P : ActId → Type 0) → ((p : ActId) → f p ≡ Some b → P b) → option_and_then f o ≡ Some b → P b
up_from f None b P rest h = cc
up_from f (Some p) b P rest h = rest p h

-- the activation that is found has the variable
holder_has : (k : ℕ) (acts : List Activation) (a : ActId) (x : List ℕ) (b : ActId) → holder_within k acts a x ≡ Some b → finmap.contains_key (vars_of acts b) x ≡ true
holder_has zero acts a x b e = cc
holder_has (suc k) acts a x b e =
    let has : ActId → Type 0 = λ c. finmap.contains_key (vars_of acts c) x ≡ true in
    found_here (finmap.contains_key (vars_of acts a) x) a (option_and_then (λ p. holder_within k acts p x) (act_at acts a).parent) b has (λ h. h)
    (up_from (λ p. holder_within k acts p x) (act_at acts a).parent b has (λ p h. holder_has k acts p x b h)) e

past : (acts : List Activation) (x : List ℕ) (b : ActId) → length acts ≤ b.0 → finmap.contains_key (vars_of acts b) x ≡ false
past acts x b le =
    ap (λ (act : Activation). finmap.contains_key act.vars x) (get_or_past acts b.0 no_act le)
    ∙ ap (λ (o : Option Val). is_some o) (finmap.get-empty (slice_cmp nat_cmp) x)

-- an activation that has a variable was made
has_lives : (acts : List Activation) (x : List ℕ) (b : ActId) → finmap.contains_key (vars_of acts b) x ≡ true → b.0 < length acts
has_lives acts x b has = ⊎_elim (λ l. l) (λ l. absurd (false≢true (sym (past acts x b l) ∙ has))) (cases_lt b.0 (length acts))

var_of : (acts : List Activation) (x : List ℕ) (b : ActId) (o : Option Val) → AreActs acts → finmap.get (vars_of acts b) x ≡ o → is_some o ≡ true → IsVar x
var_of acts x b None are e h = absurd (false≢true h)
var_of acts x b (Some v) are e h = ((are.each b).vars x v e).0

-- what is known of the activation that holds a variable
pub record IsHeld (acts : List Activation) (x : List ℕ) (b : ActId) : Type 0 where
  pub lives : b.0 < length acts
  pub is_var : IsVar x
  pub may : may_declare acts b x ≡ true

-- the activation that holds a variable was made, and may have it set
pub held : (acts : List Activation) (a : ActId) (x : List ℕ) (b : ActId) → AreActs acts → holder acts a x ≡ Some b → IsHeld acts x b
unfolding holder
held acts a x b are e =
    let has = holder_has (suc a.0) acts a x b e in
    record {
      lives = has_lives acts x b has;
      is_var = var_of acts x b (finmap.get (vars_of acts b) x) are refl has;
      may = ap (λ (t : Bool). cond t true (ltb (count_vars acts) MOST_VARS)) has;
    }

assigned_to : (acts : List Activation) (x : List ℕ) (v : Val) (o : Option ActId) → AreActs acts → IsWellSpelledVal v → ((b : ActId) → o ≡ Some b → IsHeld acts x b) → AreActs (assigned acts o x v)
assigned_to acts x v None are spelled holds = are
assigned_to acts x v (Some b) are spelled holds = let is = holds b refl in acts_set acts b x v are is.lives is.is_var spelled is.may

-- a variable that is assigned
pub acts_assigned : (acts : List Activation) (a : ActId) (x : List ℕ) (v : Val) → AreActs acts → IsWellSpelledVal v → AreActs (assigned acts (holder acts a x) x v)
acts_assigned acts a x v are spelled = assigned_to acts x v (holder acts a x) are spelled (λ b e. held acts a x b are e)

-- Activations more.

-- an activation without parent and variables is valid
pub no_act_valid : (n : ℕ) → IsAct n no_act
no_act_valid n = record { parent = λ p e. cc; vars = λ x v e. absurd (none_some (sym (finmap.get-empty (slice_cmp nat_cmp) x) ∙ e)) }

-- one more without parent and variables, as a page has it
pub acts_more : (acts : List Activation) → AreActs acts → length acts < MOST_ACTS → AreActs (acts ++ no_act ∷ [])
acts_more acts are room = record {
  each = λ a. at_pushed IsAct acts a.0 no_act no_act (no_act_valid (length acts)) (are.each a);
  few = omega (arith, length-append acts (no_act ∷ []), room);
  few_vars = omega (arith, sum_by_push (λ (act : Activation). finmap.len act.vars) acts no_act, finmap.len-empty (slice_cmp nat_cmp) Val, are.few_vars);
}

-- the variables of a call: each parameter with its argument
abbrev pub passed : List (List ℕ) → List Val → Vars
passed xs vs = finmap.from_entries (zip xs vs)

none_passed : (P : Val → Type 0) (y : List ℕ) (u : Val) → finmap.get (finmap.empty {R = slice_cmp nat_cmp}) y ≡ Some u → IsVar y × P u
none_passed P y u e = absurd (none_some (sym (finmap.get-empty (slice_cmp nat_cmp) y) ∙ e))

-- each is a variable, and has what each argument has
pub passed_each : (P : Val → Type 0) (xs : List (List ℕ)) (vs : List Val) → AllByRecursion IsVar xs → All P vs → (y : List ℕ) (u : Val) → finmap.get (passed xs vs) y ≡ Some u → IsVar y × P u
passed_each P [] vs p q y u e = none_passed P y u e
passed_each P (x ∷ xs) [] p q y u e = none_passed P y u e
passed_each P (x ∷ xs) (v ∷ vs) p q y u e =
    ⊎_elim
    (λ h. (subst IsVar (sym h.0) p.0, subst P (sym h.1) (All-head P v vs q)))
    (λ h. passed_each P xs vs p.1 (All-tail P v vs q) y u h)
    (var_set (passed xs vs) x y v u e)

one_more : (b : Bool) (old new n : ℕ) → new ≡ cond b old (old + 1) → old ≤ n → new ≤ suc n
one_more true old new n e le = omega (arith, e, le)
one_more false old new n e le = omega (arith, e, le)

few_passed : (xs : List (List ℕ)) (vs : List Val) → finmap.len (passed xs vs) ≤ length xs
few_passed [] vs = omega (arith, finmap.len-empty (slice_cmp nat_cmp) Val)
few_passed (x ∷ xs) [] = omega (arith, finmap.len-empty (slice_cmp nat_cmp) Val)
few_passed (x ∷ xs) (v ∷ vs) =
    one_more (finmap.contains_key (passed xs vs) x) (finmap.len (passed xs vs)) (finmap.len (passed (x ∷ xs) (v ∷ vs))) (length xs)
    (finmap.len-insert nat_list_cmp_total (passed xs vs) x v) (few_passed xs vs)

parent_of : (p q : ActId) (n : ℕ) → Some p ≡ Some q → p.0 < n → q.0 < n
parent_of p q n e h = let same : p ≡ q = cc in subst (λ (r : ActId). r.0 < n) same h

-- one more for a call
pub acts_called : (acts : List Activation) (parent : ActId) (params : List (List ℕ)) (args : List Val) → AreActs acts → parent.0 < length acts → AreParams params
    → All IsWellSpelledVal args → call_fault acts (length params) ≡ None → AreActs (with_act acts parent params args)
acts_called acts parent params args are lives names values room =
    let new : Activation = record { parent = Some parent; vars = passed params args } in
    let size : length (acts ++ new ∷ []) ≡ length acts + 1 = length-append acts (new ∷ []) in
    let may = and_parts _ _ (within _ room) in
    let few : length acts < MOST_ACTS = ltb-true (length acts) MOST_ACTS may.0 in
    let few_vars : count_vars acts + length params ≤ MOST_VARS = leb-true (count_vars acts + length params) MOST_VARS may.1 in
    record {
      each = λ a.
          at_pushed IsAct acts a.0 new no_act
          (record { parent = λ p e. parent_of parent p (length acts) e lives; vars = λ x v e. passed_each IsWellSpelledVal params args names.vars values x v e })
          (are.each a);
      few = omega (arith, few, size);
      few_vars = omega (arith, few_vars, few_passed params args, sum_by_push (λ (act : Activation). finmap.len act.vars) acts new);
    }
