-- Which activation holds a variable.
use Rattle.std.proofs.Common.{◌≡◌, ℕ, zero, suc, ◌<◌, ⊎_elim, true, false, cond, Option, Some, None, is_some, List, length, get_or, option_and_then, refl, sym, ap, subst, ◌∙◌, arith}
use Rattle.std.specs.List.{slice_get}
use Rattle.std.specs.FinMap as finmap
use Rattle.std.proofs.lemmas.Bool.{cases_lt}
use Rattle.std.proofs.lemmas.Option.{slice_get_past, slice_get-get_or}
use Rattle.std.proofs.lemmas.List.{get_or_past}
use Rattle.ff_value.specs.declared.ids.ActId.{ActId}
use Rattle.ff_value.specs.declared.value.Val.{Val}
use Rattle.ff_machine.specs.Windows.{Activation, no_act, act_at, vars_of, holder, holder_within, lookup}
use Rattle.ff_acts.specs.declared.cells.ActCell.{ActCell}
use Rattle.ff_acts.specs.declared.cells.VarCell.{VarCell}
use Rattle.ff_acts.specs.Digits.{digits}
use Rattle.ff_acts.specs.Held.{found, top_of, seen, vars_in, AreHeld}
use Rattle.ff_acts.specs.Stops.{IsVarAt, IsNearestAt}
use Rattle.ff_acts.proofs.Ahead.{nowhere}
use Rattle.ff_acts.proofs.Rows.{got_has, has_got, owners}
use Rattle.ff_acts.proofs.Seen.{length_seen, seen_at, vars_at}

bind_same : {A B : Type 0} (f g : A → Option B) (o : Option A) → ((p : A) → o ≡ Some p → f p ≡ g p) → option_and_then f o ≡ option_and_then g o
bind_same f g None h = refl
bind_same f g (Some p) h = h p refl

module _ (acts : List ActCell) (cells : List VarCell) (held : AreHeld acts cells) where
  abbrev view : List Activation
  view = seen acts cells

  -- Cells.

  -- the activation of a variable was made
  pub owner_lives : (k : ℕ) (cell : VarCell) → slice_get cells k ≡ Some cell → cell.owner.0 < length acts
  owner_lives k cell at =
      ⊎_elim
      (λ l. l)
      (λ past.
      let none : top_of acts cell.owner ≡ None = ap (option_and_then (λ (act : ActCell). act.top)) (slice_get_past acts cell.owner.0 past) in
      absurd (nowhere (length cells) cells cell.owner cell.name (digits cell.name) k (subst (λ l. found (length cells) cells cell.owner cell.name (digits cell.name) l ≡ Some k) none (held.each_var k cell at))))
      (cases_lt cell.owner.0 (length acts))

  -- the value of a variable, by its activation and its name
  pub got_at : (k : ℕ) (cell : VarCell) → slice_get cells k ≡ Some cell → finmap.get (vars_of view cell.owner) cell.name ≡ Some cell.value
  got_at k cell at =
      ap (λ m. finmap.get m cell.name) (vars_at acts cells cell.owner (owner_lives k cell at))
      ∙ has_got acts cells held.each_var cell.owner.0 cell.name cell.value (record { place = k; cell = cell; at = at; owner = refl; name = refl; value = refl })

  -- an activation of which a variable stands in a cell has it
  pub there : (a : ActId) (x : List ℕ) (k : ℕ) → IsVarAt cells a x k → finmap.contains_key (vars_of view a) x ≡ true
  there a x k is = ap is_some (ap (λ b. finmap.get (vars_of view b) x) (sym is.owner) ∙ ap (finmap.get (vars_of view is.cell.owner)) (sym is.name) ∙ got_at k is.cell is.at)

  module _ (a : ActId) (x : List ℕ) (lives : a.0 < length acts) where
    nothing : ((n i : ℕ) → found n cells a x (digits x) (top_of acts a) ≡ Some i → ⊥) → (o : Option Val) → finmap.get (vars_in cells a.0) x ≡ o → is_some o ≡ false
    nothing none None e = refl
    nothing none (Some u) e =
        let h = got_has cells a.0 x u e in
        let f : ActId → List ℕ → Option ℕ = λ o y. found (length cells) cells o y (digits y) (top_of acts o) in
        absurd (none (length cells) h.place (sym (ap (λ o. f o h.cell.name) (owners h.cell.owner a h.owner) ∙ ap (f a) h.name) ∙ held.each_var h.place h.cell h.at))

    -- an activation that hasn't a variable, since no search comes to it
    pub absent : ((n i : ℕ) → found n cells a x (digits x) (top_of acts a) ≡ Some i → ⊥) → finmap.contains_key (vars_of view a) x ≡ false
    absent none = ap (λ m. finmap.contains_key m x) (vars_at acts cells a lives) ∙ nothing none (finmap.get (vars_in cells a.0) x) refl

  -- Parents.

  pub parent_at : (a : ActId) (act : ActCell) → slice_get acts a.0 ≡ Some act → (act_at view a).parent ≡ act.parent
  parent_at a act at = ap (λ (is : Activation). is.parent) (seen_at acts cells a.0 act at)

  pub low : (a p : ActId) → (act_at view a).parent ≡ Some p → p.0 < a.0
  low a p e =
      let d : ActCell = record { parent = None; top = None } in
      ⊎_elim
      (λ l.
      let at = slice_get-get_or acts a.0 d l in
      (held.each_act a.0 (get_or acts a.0 d) at).parent p (sym (parent_at a (get_or acts a.0 d) at) ∙ e))
      (λ past.
      let none : None ≡ Some p = sym (ap (λ (is : Activation). is.parent) (get_or_past view a.0 no_act (omega (arith, past, length_seen acts cells)))) ∙ e in
      cc)
      (cases_lt a.0 (length acts))

  same_within : (m n : ℕ) (a : ActId) (x : List ℕ) → a.0 < m → a.0 < n → holder_within m view a x ≡ holder_within n view a x
  same_within zero n a x h i = absurd (omega arith)
  same_within (suc m) zero a x h i = absurd (omega arith)
  same_within (suc m) (suc n) a x h i =
      ap (cond (finmap.contains_key (vars_of view a) x) (Some a))
      (bind_same (λ p. holder_within m view p x) (λ p. holder_within n view p x) (act_at view a).parent (λ p e. same_within m n p x (omega (arith, low a p e)) (omega (arith, low a p e))))

  module _ (a : ActId) (x : List ℕ) where
    -- the activation holds its own variable
    pub held_here : finmap.contains_key (vars_of view a) x ≡ true → holder view a x ≡ Some a
    unfolding holder
    held_here e = ap (λ b. cond b (Some a) (option_and_then (λ p. holder_within a.0 view p x) (act_at view a).parent)) e

    over : finmap.contains_key (vars_of view a) x ≡ false → (o : Option ActId) → (act_at view a).parent ≡ o → holder view a x ≡ option_and_then (λ p. holder_within a.0 view p x) o
    unfolding holder
    over e o is =
        ap (λ b. cond b (Some a) (option_and_then (λ p. holder_within a.0 view p x) (act_at view a).parent)) e
        ∙ ap (option_and_then (λ p. holder_within a.0 view p x)) is

    -- else the one around it does, if there is one
    pub held_above : finmap.contains_key (vars_of view a) x ≡ false → (p : ActId) → (act_at view a).parent ≡ Some p → holder view a x ≡ holder view p x
    unfolding holder
    held_above e p is = over e (Some p) is ∙ same_within a.0 (suc p.0) p x (low a p is) (omega arith)

    pub held_nowhere : finmap.contains_key (vars_of view a) x ≡ false → (act_at view a).parent ≡ None → holder view a x ≡ None
    held_nowhere e is = over e None is

    -- the value of the nearest variable
    pub looked : (k : ℕ) (cell : VarCell) → IsNearestAt acts cells a x k → slice_get cells k ≡ Some cell → lookup view a x ≡ Some cell.value
    looked k cell near at =
        let both : Some near.cell ≡ Some cell = sym near.at ∙ at in
        let same : near.cell ≡ cell = cc in
        ap (option_and_then (λ b. finmap.get (vars_of view b) x)) near.holds
        ∙ ap (finmap.get (vars_of view near.cell.owner)) (sym near.name)
        ∙ got_at k near.cell near.at
        ∙ ap (λ (c : VarCell). Some c.value) same
