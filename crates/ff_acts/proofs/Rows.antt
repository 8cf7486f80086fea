-- What the variables of an activation are, by their cells.
use Rattle.std.proofs.Common.{◌≡◌, ◌≢◌, ℕ, zero, suc, ◌⊎◌, inl, inr, ⊎_elim, Bool, true, false, cond, ◌==◌, ◌&&◌, Option, Some, None, is_some, List, [], ◌∷◌, length, map, filter, refl, sym, ap, subst, ◌∙◌}
use Rattle.std.specs.List.{slice_get}
use Rattle.std.specs.Ordering.{nat_cmp, eq_by_cmp}
use Rattle.std.specs.Cmp.{Equal-is, eq_by_cmp_equiv}
use Rattle.std.specs.Cmp.Lexicographic.{slice_cmp, nat_list_cmp_total}
use Rattle.std.specs.FinMap as finmap
use Rattle.std.proofs.lemmas.Bool.{and_parts, eqb-true, eq-eqb, false≢true}
use Rattle.ff_value.specs.declared.ids.ActId.{ActId}
use Rattle.ff_value.specs.declared.value.Val.{Val}
use Rattle.ff_acts.specs.declared.cells.ActCell.{ActCell}
use Rattle.ff_acts.specs.declared.cells.VarCell.{VarCell}
use Rattle.ff_acts.specs.Digits.{digits}
use Rattle.ff_acts.specs.Held.{rows, vars_in, found, top_of, AreFound}

-- Names.

abbrev pub same : List ℕ → List ℕ → Bool
same = eq_by_cmp (slice_cmp nat_cmp)

-- only equal names tie
pub names_exact : finmap.IsAntisymmetric (slice_cmp nat_cmp)
names_exact = finmap.slice_cmp-IsAntisymmetric finmap.nat_cmp-IsAntisymmetric

pub same_is : (x y : List ℕ) → same x y ≡ true → x ≡ y
same_is x y e = names_exact x y ((Equal-is (slice_cmp nat_cmp x y)).0 e)

pub same_self : (x : List ℕ) → same x x ≡ true
same_self x = (eq_by_cmp_equiv nat_list_cmp_total).refl x

-- A variable of an activation.

-- a cell says that the activation's variable has this value
pub record Has (cells : List VarCell) (a : ℕ) (x : List ℕ) (u : Val) : Type 0 where
  pub place : ℕ
  pub cell : VarCell
  pub at : slice_get cells place ≡ Some cell
  pub owner : cell.owner.0 ≡ a
  pub name : cell.name ≡ x
  pub value : cell.value ≡ u

-- the value in the first row of that name
abbrev value_of : ℕ → List ℕ → List VarCell → Option Val
value_of a x cells = finmap.find (slice_cmp nat_cmp) x (rows a cells)

value_first : (a : ℕ) (x : List ℕ) (c : VarCell) (cs : List VarCell) → value_of a x (c ∷ cs) ≡ cond (c.owner.0 == a && same x c.name) (Some c.value) (value_of a x cs)
value_first a x c cs =
    elim (c.owner.0 == a) as (λ b. finmap.find (slice_cmp nat_cmp) x (map (λ (d : VarCell). (d.name, d.value)) (cond b (c ∷ filter (λ (d : VarCell). d.owner.0 == a) cs) (filter (λ (d : VarCell). d.owner.0 == a) cs))) ≡ cond (b && same x c.name) (Some c.value) (value_of a x cs)) [
      | true ↦ refl
      | false ↦ refl
    ]

either : {X : Type 0} (b : Bool) (v u : X) (o : Option X) → cond b (Some v) o ≡ Some u → ((b ≡ true) × (v ≡ u)) ⊎ (o ≡ Some u)
either true v u o e = inl (refl, cc)
either false v u o e = inr e

has_later : (c : VarCell) (cs : List VarCell) (a : ℕ) (x : List ℕ) (u : Val) → Has cs a x u → Has (c ∷ cs) a x u
has_later c cs a x u h = record { place = suc h.place; cell = h.cell; at = h.at; owner = h.owner; name = h.name; value = h.value }

value_has : (a : ℕ) (x : List ℕ) (u : Val) (cells : List VarCell) → value_of a x cells ≡ Some u → Has cells a x u
value_has a x u [] e = cc
value_has a x u (c ∷ cs) e =
    ⊎_elim
    (λ h. let p = and_parts (c.owner.0 == a) (same x c.name) h.0 in record { place = 0; cell = c; at = refl; owner = eqb-true c.owner.0 a p.0; name = sym (same_is x c.name p.1); value = h.1 })
    (λ h. has_later c cs a x u (value_has a x u cs h))
    (either (c.owner.0 == a && same x c.name) c.value u (value_of a x cs) (sym (value_first a x c cs) ∙ e))

some_or : {X : Type 0} (b : Bool) (v : X) (o : Option X) → (b ≡ false → is_some o ≡ true) → is_some (cond b (Some v) o) ≡ true
some_or true v o h = refl
some_or false v o h = h refl

has_value : (a : ℕ) (x : List ℕ) (cells : List VarCell) (k : ℕ) (c : VarCell) → slice_get cells k ≡ Some c → c.owner.0 ≡ a → c.name ≡ x → is_some (value_of a x cells) ≡ true
has_value a x [] k c e owner name = cc
has_value a x (d ∷ cs) zero c e owner name =
    let is : d ≡ c = cc in
    let mine : (d.owner.0 == a) ≡ true = eq-eqb d.owner.0 a (ap (λ (v : VarCell). v.owner.0) is ∙ owner) in
    let called : same x d.name ≡ true = subst (λ y. same x y ≡ true) (sym (ap (λ (v : VarCell). v.name) is ∙ name)) (same_self x) in
    ap is_some (value_first a x d cs)
    ∙ some_or (d.owner.0 == a && same x d.name) d.value (value_of a x cs) (λ f. let t : (d.owner.0 == a && same x d.name) ≡ true = ap (λ b. b && same x d.name) mine ∙ called in cc)
has_value a x (d ∷ cs) (suc k) c e owner name =
    ap is_some (value_first a x d cs) ∙ some_or (d.owner.0 == a && same x d.name) d.value (value_of a x cs) (λ f. has_value a x cs k c e owner name)

-- the map has what a cell says
pub got_has : (cells : List VarCell) (a : ℕ) (x : List ℕ) (u : Val) → finmap.get (vars_in cells a) x ≡ Some u → Has cells a x u
got_has cells a x u e = value_has a x u cells (sym (finmap.get-from_entries nat_list_cmp_total (rows a cells) x) ∙ e)

pub owners : (o p : ActId) → o.0 ≡ p.0 → o ≡ p
owners o p e = ap (λ n. let owner : ActId = record { 0 = n } in owner) e

some_is : {X : Type 0} (o : Option X) → is_some o ≡ true → (v : X) × (o ≡ Some v)
some_is None e = cc
some_is (Some v) e = (v, refl)

module _ (acts : List ActCell) (cells : List VarCell) (each : AreFound acts cells) where
  -- variables of one activation that have one name are one
  pub at_one : (i j : ℕ) (c d : VarCell) → slice_get cells i ≡ Some c → slice_get cells j ≡ Some d → c.owner.0 ≡ d.owner.0 → c.name ≡ d.name → i ≡ j
  at_one i j c d at_c at_d owner name =
      let f : ActId → List ℕ → Option ℕ = λ o x. found (length cells) cells o x (digits x) (top_of acts o) in
      let both : Some i ≡ Some j = sym (each i c at_c) ∙ ap (λ o. f o c.name) (owners c.owner d.owner owner) ∙ ap (f d.owner) name ∙ each j d at_d in
      cc

  pub has_got : (a : ℕ) (x : List ℕ) (u : Val) → Has cells a x u → finmap.get (vars_in cells a) x ≡ Some u
  has_got a x u h =
      let s = some_is (value_of a x cells) (has_value a x cells h.place h.cell h.at h.owner h.name) in
      let g = value_has a x s.0 cells s.1 in
      let one = at_one g.place h.place g.cell h.cell g.at h.at (g.owner ∙ sym h.owner) (g.name ∙ sym h.name) in
      let there : Some g.cell ≡ Some h.cell = sym g.at ∙ ap (slice_get cells) one ∙ h.at in
      let cell_is : g.cell ≡ h.cell = cc in
      finmap.get-from_entries nat_list_cmp_total (rows a cells) x ∙ s.1 ∙ ap Some (sym g.value ∙ ap (λ (c : VarCell). c.value) cell_is ∙ h.value)

-- Changes.

same_answer : {X : Type 0} (o p : Option X) → ((v : X) → o ≡ Some v → p ≡ Some v) → ((v : X) → p ≡ Some v → o ≡ Some v) → o ≡ p
same_answer None None f g = refl
same_answer None (Some v) f g = g v refl
same_answer (Some v) p f g = sym (f v refl)

-- the cells say the same of all variables but one, which has this value
pub record Writes (cells new : List VarCell) (a : ℕ) (x : List ℕ) (v : Val) : Type 0 where
  pub now : Has new a x v
  pub back : (b : ℕ) (y : List ℕ) (u : Val) → Has new b y u → ((b ≡ a) × (y ≡ x)) ⊎ Has cells b y u
  pub on : (b : ℕ) (y : List ℕ) (u : Val) → Has cells b y u → (b ≡ a → y ≡ x → ⊥) → Has new b y u

-- a variable of one activation was set, and none of another
pub record Sets (cells new : List VarCell) (a : ℕ) (x : List ℕ) (v : Val) : Type 0 where
  pub here : vars_in new a ≡ finmap.insert (vars_in cells a) x v
  pub elsewhere : (b : ℕ) → b ≢ a → vars_in new b ≡ vars_in cells b

module _ (acts later : List ActCell) (cells new : List VarCell) (each : AreFound acts cells) (each_new : AreFound later new) (a : ℕ) (x : List ℕ) (v : Val) (writes : Writes cells new a x v) where
  unmoved : (b : ℕ) (y : List ℕ) → (b ≡ a → y ≡ x → ⊥) → finmap.get (vars_in new b) y ≡ finmap.get (vars_in cells b) y
  unmoved b y other =
      same_answer _ _
      (λ u e. ⊎_elim (λ h. absurd (other h.0 h.1)) (λ h. has_got acts cells each b y u h) (writes.back b y u (got_has new b y u e)))
      (λ u e. has_got later new each_new b y u (writes.on b y u (got_has cells b y u e) other))

  moved : (y : List ℕ) (b : Bool) → same y x ≡ b → finmap.get (vars_in new a) y ≡ cond b (Some v) (finmap.get (vars_in cells a) y)
  moved y true e = ap (finmap.get (vars_in new a)) (same_is y x e) ∙ has_got later new each_new a x v writes.now
  moved y false e = unmoved a y (λ _ is. false≢true (sym e ∙ ap (λ z. same z x) is ∙ same_self x))

  pub sets : Sets cells new a x v
  sets = record {
    here = finmap.same_map nat_list_cmp_total names_exact (vars_in new a) (finmap.insert (vars_in cells a) x v) (λ y. moved y (same y x) refl ∙ sym (finmap.get-insert nat_list_cmp_total (vars_in cells a) x v y));
    elsewhere = λ b other. finmap.same_map nat_list_cmp_total names_exact (vars_in new b) (vars_in cells b) (λ y. unmoved b y (λ is _. other is));
  }
