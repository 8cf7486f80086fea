-- The activations that cells stand for, by their numbers.
use Rattle.std.proofs.Common.{◌≡◌, ℕ, zero, suc, ◌+◌, ◌<◌, ⊎_elim, true, false, cond, Some, None, List, [], ◌∷◌, length, get_or, set, refl, sym, ap, ◌∙◌, arith}
use Rattle.std.specs.List.{slice_get}
use Rattle.std.specs.Cmp.Lexicographic.{nat_list_cmp_total}
use Rattle.std.specs.FinMap as finmap
use Rattle.std.proofs.lemmas.Bool.{cases_eq}
use Rattle.std.proofs.lemmas.Option.{slice_get-get_or}
use Rattle.std.proofs.lemmas.List.{length-set, get_or-set_same, get_or-set_other, ext_get_or}
use Rattle.std.proofs.lemmas.List.Sums.{sum_by-set}
use Rattle.ff_value.specs.declared.ids.ActId.{ActId}
use Rattle.ff_value.specs.declared.value.Val.{Val}
use Rattle.ff_machine.specs.Windows.{Activation, no_act, act_at, vars_of, set_var, count_vars}
use Rattle.ff_acts.specs.declared.cells.ActCell.{ActCell}
use Rattle.ff_acts.specs.declared.cells.VarCell.{VarCell}
use Rattle.ff_acts.specs.Held.{vars_in, seen_from, seen}
use Rattle.ff_acts.proofs.Rows.{Sets}

length_from : (n : ℕ) (acts : List ActCell) (cells : List VarCell) → length (seen_from n acts cells) ≡ length acts
length_from n [] cells = refl
length_from n (act ∷ acts) cells = let rest = length_from (suc n) acts cells in omega (arith, rest)

-- there are as many as cells
pub length_seen : (acts : List ActCell) (cells : List VarCell) → length (seen acts cells) ≡ length acts
unfolding seen
length_seen acts cells = length_from 0 acts cells

-- an activation that is seen has a cell
pub lives_in : (acts : List ActCell) (cells : List VarCell) (view : List Activation) (a : ℕ) → seen acts cells ≡ view → a < length view → a < length acts
lives_in acts cells view a e h = omega (arith, h, ap length e, length_seen acts cells)

-- an activation by its cell
abbrev pub act_of : ℕ → ActCell → List VarCell → Activation
act_of a act cells = record { parent = act.parent; vars = vars_in cells a }

from_at : (n : ℕ) (acts : List ActCell) (cells : List VarCell) (k : ℕ) (act : ActCell) → slice_get acts k ≡ Some act → get_or (seen_from n acts cells) k no_act ≡ act_of (n + k) act cells
from_at n [] cells k act e = cc
from_at n (first ∷ acts) cells zero act e =
    let is : first ≡ act = cc in
    let z : n ≡ n + 0 = omega arith in
    ap (λ f. act_of n f cells) is ∙ ap (λ m. act_of m act cells) z
from_at n (first ∷ acts) cells (suc k) act e =
    let z : suc n + k ≡ n + suc k = omega arith in
    from_at (suc n) acts cells k act e ∙ ap (λ m. act_of m act cells) z

pub seen_at : (acts : List ActCell) (cells : List VarCell) (k : ℕ) (act : ActCell) → slice_get acts k ≡ Some act → get_or (seen acts cells) k no_act ≡ act_of k act cells
unfolding seen
seen_at acts cells k act e = let z : 0 + k ≡ k = omega arith in from_at 0 acts cells k act e ∙ ap (λ m. act_of m act cells) z

-- the activations have the parents that they had
abbrev pub KeepParents : List ActCell → List ActCell → Type 0
KeepParents old new = (k : ℕ) (act : ActCell) → slice_get old k ≡ Some act → (later : ActCell) × (slice_get new k ≡ Some later) × (later.parent ≡ act.parent)

pub seen_set : (acts later : List ActCell) (cells new : List VarCell) (a : ActId) (x : List ℕ) (v : Val) → length later ≡ length acts → KeepParents acts later → Sets cells new a.0 x v → a.0 < length acts
    → seen later new ≡ set_var (seen acts cells) a x v
seen_set acts later cells new a x v len keep sets lives =
    let old = seen acts cells in
    let changed : Activation = record (act_at old a) { vars = finmap.insert (act_at old a).vars x v } in
    let long : length old ≡ length acts = length_seen acts cells in
    ext_get_or no_act (seen later new) (set old a.0 changed) (length_seen later new ∙ len ∙ sym long ∙ sym (length-set old a.0 changed))
    (λ k below.
    let within : k < length acts = omega (arith, length_seen later new) in
    let is = there acts k within in
    let then = keep k is.0 is.1 in
    let now : get_or (seen later new) k no_act ≡ act_of k is.0 new = seen_at later new k then.0 then.1 ∙ ap (λ p. let act : Activation = record { parent = p; vars = vars_in new k } in act) then.2 in
    let was : get_or old k no_act ≡ act_of k is.0 cells = seen_at acts cells k is.0 is.1 in
    ⊎_elim
    (λ same.
    now
    ∙ ap (λ m. let act : Activation = record { parent = is.0.parent; vars = m } in act) (ap (vars_in new) same ∙ sets.here)
    ∙ sym (ap (λ m. get_or (set old a.0 changed) m no_act) same ∙ get_or-set_same old a.0 changed no_act (omega (arith, long))
    ∙ ap (λ (act : Activation). let more : Activation = record act { vars = finmap.insert act.vars x v } in more) (ap (λ m. get_or old m no_act) (sym same) ∙ was ∙ ap (λ m. act_of m is.0 cells) same)))
    (λ other.
    now
    ∙ ap (λ m. let act : Activation = record { parent = is.0.parent; vars = m } in act) (sets.elsewhere k other)
    ∙ sym (get_or-set_other old a.0 k changed no_act other ∙ was))
    (cases_eq k a.0))
  where
    there : (acts : List ActCell) (k : ℕ) → k < length acts → (act : ActCell) × (slice_get acts k ≡ Some act)
    there acts k h = (get_or acts k (record { parent = None; top = None }), slice_get-get_or acts k (record { parent = None; top = None }) h)

-- How many variables there are.

pub vars_at : (acts : List ActCell) (cells : List VarCell) (a : ActId) → a.0 < length acts → vars_of (seen acts cells) a ≡ vars_in cells a.0
vars_at acts cells a lives =
    let d : ActCell = record { parent = None; top = None } in
    ap (λ (act : Activation). act.vars) (seen_at acts cells a.0 (get_or acts a.0 d) (slice_get-get_or acts a.0 d lives))

module _ (acts : List Activation) (a : ActId) (x : List ℕ) (v : Val) (lives : a.0 < length acts) where
  count_set : count_vars (set_var acts a x v) + finmap.len (vars_of acts a) ≡ count_vars acts + finmap.len (finmap.insert (vars_of acts a) x v)
  count_set =
      let sums = sum_by-set (λ act. finmap.len act.vars) acts a.0 (record (act_at acts a) { vars = finmap.insert (vars_of acts a) x v }) no_act lives in
      omega (arith, sums)

  len_is : finmap.len (finmap.insert (vars_of acts a) x v) ≡ cond (finmap.contains_key (vars_of acts a) x) (finmap.len (vars_of acts a)) (finmap.len (vars_of acts a) + 1)
  len_is = finmap.len-insert nat_list_cmp_total (vars_of acts a) x v

  -- a new variable is one more
  pub count_new : finmap.contains_key (vars_of acts a) x ≡ false → count_vars (set_var acts a x v) ≡ count_vars acts + 1
  count_new none = omega (arith, count_set, len_is ∙ ap (λ b. cond b (finmap.len (vars_of acts a)) (finmap.len (vars_of acts a) + 1)) none)

  -- one that is there is none more
  pub count_old : finmap.contains_key (vars_of acts a) x ≡ true → count_vars (set_var acts a x v) ≡ count_vars acts
  count_old there = omega (arith, count_set, len_is ∙ ap (λ b. cond b (finmap.len (vars_of acts a)) (finmap.len (vars_of acts a) + 1)) there)
