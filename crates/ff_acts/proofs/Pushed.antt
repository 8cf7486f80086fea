-- No activations, and an activation more.
use Rattle.std.proofs.Common.{◌≡◌, ℕ, suc, ◌+◌, ◌<◌, ⊎_elim, Option, Some, None, List, [], ◌∷◌, ◌++◌, length, option_and_then, refl, sym, ap, subst, ◌∙◌, arith}
use Rattle.std.specs.List.{slice_get}
use Rattle.std.specs.Option.{ForSome}
use Rattle.std.specs.Ordering.{nat_cmp}
use Rattle.std.specs.Cmp.Lexicographic.{slice_cmp, nat_list_cmp_total}
use Rattle.std.specs.FinMap as finmap
use Rattle.std.proofs.lemmas.List.{length_push}
use Rattle.std.proofs.lemmas.List.Sums.{sum_by_push}
use Rattle.ff_value.specs.declared.ids.ActId.{ActId}
use Rattle.ff_value.specs.declared.value.Val.{Val}
use Rattle.ff_machine.specs.declared.limits.TheConstants.{MOST_ACTS}
use Rattle.ff_machine.specs.Windows.{Activation, count_vars}
use Rattle.ff_acts.specs.declared.cells.ActCell.{ActCell}
use Rattle.ff_acts.specs.declared.cells.VarCell.{VarCell}
use Rattle.ff_acts.specs.Digits.{digits}
use Rattle.ff_acts.specs.Held.{top_of, vars_in, seen_from, seen, IsActCell, AreHeld}
use Rattle.ff_acts.specs.Stops.{Stays, Extends}
use Rattle.ff_acts.proofs.Holders.{owner_lives}
use Rattle.ff_acts.proofs.Paths.{found_extends}
use Rattle.ff_acts.proofs.Places.{get_push_old, pushed, some_of}
use Rattle.ff_acts.proofs.Rows.{got_has, names_exact}
use Rattle.ff_acts.proofs.Seen.{act_of}

-- without cells there are no activations
pub none_seen : (acts : List ActCell) (cells : List VarCell) → acts ≡ [] → seen acts cells ≡ []
unfolding seen
none_seen acts cells e = ap (λ l. seen_from 0 l cells) e

none_at : {A : Type 0} (i : ℕ) (c : A) → slice_get {X = A} [] i ≡ Some c → ⊥
none_at i c e = cc

nothing_held : AreHeld [] []
unfolding seen
nothing_held = record {
  few_acts = omega arith;
  few_vars = omega arith;
  counted = refl;
  each_act = λ i c e. absurd (none_at i c e);
  links = λ i c e. absurd (none_at i c e);
  each_var = λ i c e. absurd (none_at i c e);
}

pub none_held : (acts : List ActCell) (cells : List VarCell) → acts ≡ [] → cells ≡ [] → AreHeld acts cells
none_held acts cells e f = subst (λ l. AreHeld l cells) (sym e) (subst (AreHeld []) (sym f) nothing_held)

-- cells extend themselves
pub extends_itself : (cells : List VarCell) → Extends cells cells
extends_itself cells k cell e = (cell, e, record { owner = refl; name = refl; left = λ j h. h; right = λ j h. h })

seen_push : (n : ℕ) (acts : List ActCell) (act : ActCell) (cells : List VarCell) → seen_from n (acts ++ act ∷ []) cells ≡ seen_from n acts cells ++ act_of (n + length acts) act cells ∷ []
seen_push n [] act cells = let z : n ≡ n + 0 = omega arith in ap (λ m. act_of m act cells ∷ []) z
seen_push n (first ∷ acts) act cells =
    let z : suc n + length acts ≡ n + length (first ∷ acts) = omega arith in
    ap (λ rest. act_of n first cells ∷ rest) (seen_push (suc n) acts act cells ∙ ap (λ m. seen_from (suc n) acts cells ++ act_of m act cells ∷ []) z)

module _ (acts : List ActCell) (cells : List VarCell) (held : AreHeld acts cells) (parent : Option ActId) where
  abbrev act : ActCell
  act = record { parent = parent; top = None }

  abbrev new : Activation
  new = record { parent = parent; vars = finmap.empty }

  no_value : (x : List ℕ) (o : Option Val) → finmap.get (vars_in cells (length acts)) x ≡ o → o ≡ None
  no_value x None e = refl
  no_value x (Some u) e =
      let h = got_has cells (length acts) x u e in
      absurd (omega (arith, owner_lives acts cells held h.place h.cell h.at, h.owner))

  no_vars : vars_in cells (length acts) ≡ finmap.empty
  no_vars = finmap.same_map nat_list_cmp_total names_exact (vars_in cells (length acts)) finmap.empty (λ x. no_value x (finmap.get (vars_in cells (length acts)) x) refl ∙ sym (finmap.get-empty (slice_cmp nat_cmp) x))

  -- an activation without variables more
  pub pushed_seen : seen (acts ++ act ∷ []) cells ≡ seen acts cells ++ new ∷ []
  unfolding seen
  pushed_seen =
      let z : 0 + length acts ≡ length acts = omega arith in
      seen_push 0 acts act cells
      ∙ ap (λ m. seen_from 0 acts cells ++ record { parent = parent; vars = m } ∷ []) (ap (vars_in cells) z ∙ no_vars)

  top_stays : (b : ActId) → Stays (top_of acts b) (top_of (acts ++ act ∷ []) b)
  top_stays b k e =
      let s = some_of (λ (c : ActCell). c.top) (slice_get acts b.0) k e in
      ap (option_and_then (λ (c : ActCell). c.top)) (get_push_old acts b.0 act s.0 s.1) ∙ s.2

  pub pushed_held : length acts < MOST_ACTS → ForSome parent (λ p. p.0 < length acts) → AreHeld (acts ++ act ∷ []) cells
  pushed_held room lives = record {
    few_acts = omega (arith, room, length_push acts act);
    few_vars = held.few_vars;
    counted = omega (arith, ap count_vars pushed_seen, sum_by_push (λ is. finmap.len is.vars) (seen acts cells) new, finmap.len-empty (slice_cmp nat_cmp) Val, held.counted);
    each_act = λ k c e. ⊎_elim
        (λ h. held.each_act k c h)
        (λ h. let fresh : IsActCell cells k act = record { parent = λ p is. omega (arith, lives p is, h.0); top = λ j is. let no : None ≡ Some j = is in cc } in subst (IsActCell cells k) (sym h.1) fresh)
        (pushed acts k act c e);
    links = held.links;
    each_var = λ k c e. found_extends (length cells) cells cells c.owner c.name (digits c.name) (top_of acts c.owner) (top_of (acts ++ act ∷ []) c.owner) k (extends_itself cells) (top_stays c.owner) (held.each_var k c e);
  }
