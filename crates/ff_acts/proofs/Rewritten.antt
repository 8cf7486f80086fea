-- Another value of a variable: the cells with it are held, and the activations have it.
use Rattle.std.proofs.Common.{◌≡◌, ◌≢◌, ℕ, suc, ◌<◌, ◌⊎◌, inl, inr, ⊎_elim, Option, Some, is_some, List, length, set, refl, sym, ap, subst, ◌∙◌, arith}
use Rattle.std.specs.List.{slice_get}
use Rattle.std.proofs.lemmas.Bool.{cases_eq}
use Rattle.std.proofs.lemmas.Option.{slice_get_within}
use Rattle.std.proofs.lemmas.List.{length-set}
use Rattle.ff_value.specs.declared.ids.ActId.{ActId}
use Rattle.ff_value.specs.declared.value.Val.{Val}
use Rattle.ff_machine.specs.Windows.{set_var, count_vars}
use Rattle.ff_acts.specs.declared.cells.ActCell.{ActCell}
use Rattle.ff_acts.specs.declared.cells.VarCell.{VarCell}
use Rattle.ff_acts.specs.Digits.{digits}
use Rattle.ff_acts.specs.Held.{found, top_of, seen, IsLink, AreFound, AreHeld}
use Rattle.ff_acts.specs.Stops.{Extends}
use Rattle.ff_acts.proofs.Holders.{owner_lives, got_at}
use Rattle.ff_acts.proofs.Paths.{found_extends}
use Rattle.ff_acts.proofs.Places.{get_set_same, get_set_other, written}
use Rattle.ff_acts.proofs.Rows.{Writes, sets}
use Rattle.ff_acts.proofs.Seen.{seen_set, length_seen, count_old}

-- the two differ in their values at most
record Alike (old new : VarCell) : Type 0 where
  owner : new.owner ≡ old.owner
  name : new.name ≡ old.name
  left : new.left ≡ old.left
  right : new.right ≡ old.right

module _ (acts : List ActCell) (cells : List VarCell) (held : AreHeld acts cells) (k : ℕ) (cell : VarCell) (at : slice_get cells k ≡ Some cell) (v : Val) where
  abbrev now : VarCell
  now = record cell { value = v }

  new : List VarCell
  new = set cells k now

  within : k < length cells
  within = slice_get_within cells k cell at

  len_new : length new ≡ length cells
  unfolding new
  len_new = length-set cells k now

  new_at : slice_get new k ≡ Some now
  unfolding new
  new_at = get_set_same cells k now within

  new_from : (j : ℕ) (c : VarCell) → slice_get new j ≡ Some c → ((j ≡ k) × (c ≡ now)) ⊎ ((j ≢ k) × (slice_get cells j ≡ Some c))
  unfolding new
  new_from j c e = written cells k j now c e

  new_other : (j : ℕ) → j ≢ k → slice_get new j ≡ slice_get cells j
  unfolding new
  new_other j ne = get_set_other cells k j now ne

  alike_now : Alike cell now
  alike_now = record { owner = refl; name = refl; left = refl; right = refl }

  alike_itself : (c : VarCell) → Alike c c
  alike_itself c = record { owner = refl; name = refl; left = refl; right = refl }

  -- each cell stands where it stood
  back : (j : ℕ) (c : VarCell) → slice_get new j ≡ Some c → (d : VarCell) × (slice_get cells j ≡ Some d) × Alike d c
  back j c e =
      ⊎_elim
      (λ h. (cell, ap (slice_get cells) h.0 ∙ at, subst (Alike cell) (sym h.1) alike_now))
      (λ h. (c, h.1, alike_itself c))
      (new_from j c e)

  extends : Extends cells new
  extends j d e =
      ⊎_elim
      (λ same.
      let both : Some d ≡ Some cell = sym e ∙ ap (slice_get cells) same ∙ at in
      let is : cell ≡ d = cc in (
        now,
        ap (slice_get new) same ∙ new_at,
        record {
          owner = ap (λ (c : VarCell). c.owner) is;
          name = ap (λ (c : VarCell). c.name) is;
          left = λ i h. ap (λ (c : VarCell). c.left) is ∙ h;
          right = λ i h. ap (λ (c : VarCell). c.right) is ∙ h;
        },
      ))
      (λ other. (d, new_other j other ∙ e, record { owner = refl; name = refl; left = λ i h. h; right = λ i h. h }))
      (cases_eq j k)

  new_found : AreFound acts new
  new_found j c e =
      let h = back j c e in
      let f : ActId → List ℕ → Option ℕ = λ o y. found (length new) new o y (digits y) (top_of acts o) in
      ap (λ o. f o c.name) h.2.owner ∙ ap (f h.0.owner) h.2.name
      ∙ ap (λ n. found n new h.0.owner h.0.name (digits h.0.name) (top_of acts h.0.owner)) len_new
      ∙ found_extends (length cells) cells new h.0.owner h.0.name (digits h.0.name) (top_of acts h.0.owner) (top_of acts h.0.owner) j extends (λ i s. s) (held.each_var j h.0 h.1)

  link_same : (low : ℕ) (old link : Option ℕ) → IsLink cells low old → link ≡ old → IsLink new low link
  link_same low old link is same j e = let p = is j (sym same ∙ e) in (p.0, omega (arith, p.1, len_new))

  writes : Writes cells new cell.owner.0 cell.name v
  writes = record {
    now = record { place = k; cell = now; at = new_at; owner = refl; name = refl; value = refl };
    back = λ b y u h. ⊎_elim
        (λ is. inl (sym h.owner ∙ ap (λ (c : VarCell). c.owner.0) is.1, sym h.name ∙ ap (λ (c : VarCell). c.name) is.1))
        (λ old. inr (record { place = h.place; cell = h.cell; at = old.1; owner = h.owner; name = h.name; value = h.value }))
        (new_from h.place h.cell h.at);
    on = λ b y u h other. ⊎_elim
        (λ same.
        let both : Some h.cell ≡ Some cell = sym h.at ∙ ap (slice_get cells) same ∙ at in
        let is : h.cell ≡ cell = cc in
        absurd (other (sym h.owner ∙ ap (λ (c : VarCell). c.owner.0) is) (sym h.name ∙ ap (λ (c : VarCell). c.name) is)))
        (λ ne. record { place = h.place; cell = h.cell; at = new_other h.place ne ∙ h.at; owner = h.owner; name = h.name; value = h.value })
        (cases_eq h.place k);
  }

  seen_new : seen acts new ≡ set_var (seen acts cells) cell.owner cell.name v
  seen_new =
      seen_set acts acts cells new cell.owner cell.name v refl (λ j act e. (act, e, refl))
      (sets acts acts cells new held.each_var new_found cell.owner.0 cell.name v writes) (owner_lives acts cells held k cell at)

  held_new : AreHeld acts new
  held_new = record {
    few_acts = held.few_acts;
    few_vars = omega (arith, held.few_vars, len_new);
    counted = ap count_vars seen_new ∙ count_old (seen acts cells) cell.owner cell.name v (omega (arith, owner_lives acts cells held k cell at, length_seen acts cells)) (ap is_some (got_at acts cells held k cell at)) ∙ held.counted ∙ sym len_new;
    each_act = λ j act e. let old = held.each_act j act e in record { parent = old.parent; top = link_same 0 act.top act.top old.top refl };
    links = λ j c e. let h = back j c e in let old = held.links j h.0 h.1 in record {
      left = link_same (suc j) h.0.left c.left old.left h.2.left;
      right = link_same (suc j) h.0.right c.right old.right h.2.right;
    };
    each_var = new_found;
  }

  -- the variable has the value, and the cells are held
  pub rewritten_seen : seen acts (set cells k (record cell { value = v })) ≡ set_var (seen acts cells) cell.owner cell.name v
  unfolding new
  rewritten_seen = seen_new

  pub rewritten_held : AreHeld acts (set cells k (record cell { value = v }))
  unfolding new
  rewritten_held = held_new
