-- Changes of variables and activations keep stores valid.
use Rattle.std.proofs.Common.{◌≡◌, ℕ, ◌<◌, ◌≤◌, ⊎_elim, true, Option, Some, None, List, length, slice_set, option_and_then, arith, refl, sym, subst, length-set}
use Rattle.std.specs.FinMap as finmap
use Rattle.ff_tree.specs.Spelled.{IsVar}
use Rattle.ff_value.specs.declared.ids.ActId.{ActId}
use Rattle.ff_value.specs.declared.value.Val.{Val}
use Rattle.ff_machine.specs.Windows.{Activation, act_at, vars_of, no_act, set_var, may_declare, declare_fault, holder, assigned, assign_fault}
use Rattle.ff_machine.specs.Stores.{Stores}
use Rattle.ff_machine.specs.Reduction.{with_acts}
use Rattle.ff_machine.specs.Alone.{AreActs}
use Rattle.ff_machine.specs.References.{Made, Grows, made, ValRefers, ActRefers}
use Rattle.ff_machine.specs.Valid.{IsVal, IsStores}
use Rattle.ff_laws.specs.Keeps.{Keeps}
use Rattle.ff_laws.proofs.Growing as growing
use Rattle.ff_machine.proofs.Lists.{at_set}
use Rattle.ff_machine.proofs.ActChanges as changes
use Rattle.ff_machine.proofs.Changes.{within}
use Rattle.ff_machine.proofs.ActChanges.{var_set}
use Rattle.ff_machine.proofs.WindowChanges.{acts_set}

-- what a change of activations has to keep: at least as many, each valid, and each referring to
-- what was made
pub record AreKept (s : Stores) (acts : List Activation) : Type 0 where
  pub more : length s.windows.acts ≤ length acts
  pub alone : AreActs acts
  pub refer : (a : ActId) → ActRefers (made (with_acts s acts)) (act_at acts a)

-- then the stores are kept
pub acts_changed : (s : Stores) (acts : List Activation) → IsStores s → AreKept s acts → Keeps s (with_acts s acts)
acts_changed s acts valid kept =
    let t = with_acts s acts in
    let grows : Grows (made s) (made t) = record { wins = omega arith; pages = omega arith; nodes = omega arith; acts = kept.more } in
    let refer = growing.stores_refer_grow (made s) (made t) grows s valid.refer in
    record {
      stores = record {
        nodes = valid.nodes;
        windows = acts_set s.windows acts valid.windows kept.more kept.alone;
        jar = valid.jar;
        requests = valid.requests;
        refer = record { nodes = refer.nodes; pages = refer.pages; acts = kept.refer; requests = refer.requests; touched = refer.touched };
        rooted = valid.rooted;
        queued = valid.queued;
        light = valid.light;
      };
      grows = grows;
    }

-- Variables.

refers_set : (m : Made) (act : Activation) (x : List ℕ) (v : Val) → ActRefers m act → ValRefers m v → ActRefers m (record act { vars = finmap.insert act.vars x v })
refers_set m act x v refers is = λ y u e. ⊎_elim (λ h. subst (ValRefers m) (sym h.1) is) (λ h. refers y u h) (var_set act.vars x y v u e)

set_kept : (s : Stores) (a : ActId) (x : List ℕ) (v : Val) → IsStores s → a.0 < length s.windows.acts → IsVar x → IsVal (made s) v → may_declare s.windows.acts a x ≡ true
    → AreKept s (set_var s.windows.acts a x v)
set_kept s a x v valid lives is_var is_val may =
    let acts = s.windows.acts in
    let new : Activation = record (act_at acts a) { vars = finmap.insert (vars_of acts a) x v } in
    let t = with_acts s (set_var acts a x v) in
    let size : length (slice_set acts a.0 new) ≡ length acts = length-set acts a.0 new in
    let grows : Grows (made s) (made t) = record { wins = omega arith; pages = omega arith; nodes = omega arith; acts = omega (arith, size) } in
    let old = growing.acts_refer_grow (made s) (made t) grows acts valid.refer.acts in
    record {
      more = omega (arith, size);
      alone = changes.acts_set acts a x v valid.windows.acts lives is_var is_val.0 may;
      refer = λ b. at_set (λ j act. ActRefers (made t) act) acts a.0 b.0 new no_act (refers_set (made t) (act_at acts a) x v (old a) (growing.val_refers_grows (made s) (made t) grows v is_val.1)) (old b);
    }

-- a variable that is declared keeps stores valid
pub declared_valid : (s : Stores) (a : ActId) (x : List ℕ) (v : Val) → IsStores s → a.0 < length s.windows.acts → IsVar x → IsVal (made s) v
    → declare_fault s.windows.acts a x ≡ None → Keeps s (with_acts s (set_var s.windows.acts a x v))
declared_valid s a x v valid lives is_var is_val room =
    acts_changed s (set_var s.windows.acts a x v) valid (set_kept s a x v valid lives is_var is_val (within _ room))

-- The nearest variable.

found_valid : (s : Stores) (x : List ℕ) (v : Val) (o : Option ActId) → IsStores s → IsVal (made s) v → ((b : ActId) → o ≡ Some b → changes.IsHeld s.windows.acts x b)
    → assign_fault o ≡ None → Keeps s (with_acts s (assigned s.windows.acts o x v))
found_valid s x v None valid is_val has there = cc
found_valid s x v (Some b) valid is_val has there =
    let is = has b refl in
    acts_changed s (set_var s.windows.acts b x v) valid (set_kept s b x v valid is.lives is.is_var is_val is.may)

-- a variable that is assigned keeps stores valid
pub assigned_valid : (s : Stores) (a : ActId) (x : List ℕ) (v : Val) → IsStores s → IsVal (made s) v
    → assign_fault (holder s.windows.acts a x) ≡ None → Keeps s (with_acts s (assigned s.windows.acts (holder s.windows.acts a x) x v))
assigned_valid s a x v valid is_val there = found_valid s x v (holder s.windows.acts a x) valid is_val (λ b e. changes.held s.windows.acts a x b valid.windows.acts e) there

-- a variable that is looked up has a valid value
pub looked_up_valid : (m : Made) (acts : List Activation) (x : List ℕ) (o : Option ActId) (v : Val) → AreActs acts → ((a : ActId) → ActRefers m (act_at acts a))
    → option_and_then (λ b. finmap.get (vars_of acts b) x) o ≡ Some v → IsVal m v
looked_up_valid m acts x None v are refer e = cc
looked_up_valid m acts x (Some b) v are refer e = (((are.each b).vars x v e).1, refer b x v e)
