-- A search on its way: what it may still come to, and where it ends.
use Rattle.std.proofs.Common.{◌≡◌, ℕ, zero, suc, ◌+◌, ◌-◌, ◌/◌, ◌%◌, ◌<◌, Bool, true, false, cond, ◌==◌, Option, Some, None, List, length, option_and_then, refl, sym, ap, subst, ◌∙◌, arith}
use Rattle.std.specs.List.{slice_get}
use Rattle.ff_value.specs.declared.ids.ActId.{ActId}
use Rattle.ff_acts.specs.declared.cells.VarCell.{VarCell}
use Rattle.ff_acts.specs.declared.searching.Place.{Place}
use Rattle.ff_acts.specs.declared.searching.Place.TheVariants.{Left, Right}
use Rattle.ff_acts.specs.Digits.{digits}
use Rattle.ff_acts.specs.Held.{is_var, link_of, found, IsLink, HasLinks}
use Rattle.ff_acts.specs.Stops.{LivesAt, link_at, after_place, Stays, Extends, IsOpen}
use Rattle.ff_acts.proofs.Paths.{found_at, found_more, found_within, same_var, link_stays}

-- the search has come to a place with these digits left
pub record IsAhead (top : Option ℕ) (cells : List VarCell) (a : ActId) (x : List ℕ) (place : Place) (link : Option ℕ) (rest : ℕ) : Type 0 where
  pub at : link ≡ link_at top cells place
  pub below : IsLink cells (after_place place) link
  pub lives : LivesAt cells place
  pub kept : (n i : ℕ) → found n cells a x (digits x) top ≡ Some i → found n cells a x rest link ≡ Some i
  pub leads : (first : Option ℕ) (new : List VarCell) (n i : ℕ) → Stays top first → Extends cells new → found n new a x rest (link_at first new place) ≡ Some i → found (after_place place + n) new a x (digits x) first ≡ Some i

-- at most so many cells are still ahead
abbrev pub cells_ahead : ℕ → Option ℕ → ℕ
cells_ahead len None = 0
cells_ahead len (Some k) = len - k

-- a cell of another variable is passed
passed : (n : ℕ) (cells : List VarCell) (a : ActId) (x : List ℕ) (rest : ℕ) (link : Option ℕ) (k i : ℕ) (cell : VarCell) → link ≡ Some k → slice_get cells k ≡ Some cell → is_var a x cell ≡ false
    → found n cells a x rest link ≡ Some i → found n cells a x (rest / 2) (link_of cell rest) ≡ Some i
passed zero cells a x rest link k i cell e is other f = cc
passed (suc n) cells a x rest link k i cell e is other f =
    found_more n cells a x (rest / 2) (link_of cell rest) i
    (sym (found_at cells a x n rest link k cell e is ∙ ap (λ b. cond b (Some k) (found n cells a x (rest / 2) (link_of cell rest))) other) ∙ f)

low_link : (cells : List VarCell) (k rest : ℕ) (cell : VarCell) → HasLinks cells k cell → (b : Bool) → IsLink cells (suc k) (cond b cell.right cell.left)
low_link cells k rest cell has true = has.right
low_link cells k rest cell has false = has.left

module _ (top : Option ℕ) (cells : List VarCell) (a : ActId) (x : List ℕ) (place : Place) (link : Option ℕ) (rest : ℕ) (h : IsAhead top cells a x place link rest)
    (k : ℕ) (cell : VarCell) (e : link ≡ Some k) (is : slice_get cells k ≡ Some cell) (other : is_var a x cell ≡ false) (has : HasLinks cells k cell) where
  further : (next : Place) → after_place next ≡ suc k → LivesAt cells next → ((first : Option ℕ) (new : List VarCell) (u : VarCell) → slice_get new k ≡ Some u → link_at first new next ≡ link_of u rest)
      → IsAhead top cells a x next (link_of cell rest) (rest / 2)
  further next after lives at = record {
    at = sym (at top cells cell is);
    below = subst (λ low. IsLink cells low (link_of cell rest)) (sym after) (low_link cells k rest cell has (rest % 2 == 1));
    lives = lives;
    kept = λ n i f. passed n cells a x rest link k i cell e is other (h.kept n i f);
    leads = λ first new n i s ext f.
        let u = ext k cell is in
        let here : link_at first new place ≡ Some k = link_stays top first cells new place s ext k (sym h.at ∙ e) in
        let there : found n new a x (rest / 2) (link_of u.0 rest) ≡ Some i = subst (λ l. found n new a x (rest / 2) l ≡ Some i) (at first new u.0 u.1) f in
        let back : found (suc n) new a x rest (link_at first new place) ≡ Some i =
        found_at new a x n rest (link_at first new place) k u.0 here u.1 ∙ ap (λ b. cond b (Some k) (found n new a x (rest / 2) (link_of u.0 rest))) (same_var a x cell u.0 u.2 ∙ other) ∙ there in
        let low = h.below k e in
        found_within (after_place place + suc n) (after_place next + n) new a x (digits x) first i (omega (arith, low.0, after)) (h.leads first new (suc n) i s ext back);
  }

  within : k < length cells
  within = (h.below k e).1

  pub goes_right : (rest % 2 == 1) ≡ true → IsAhead top cells a x (Right k) cell.right (rest / 2)
  goes_right odd =
      subst (λ l. IsAhead top cells a x (Right k) l (rest / 2)) (ap (λ b. cond b cell.right cell.left) odd)
      (further (Right k) refl within (λ first new u at. ap (option_and_then (λ (c : VarCell). c.right)) at ∙ sym (ap (λ b. cond b u.right u.left) odd)))

  pub goes_left : (rest % 2 == 1) ≡ false → IsAhead top cells a x (Left k) cell.left (rest / 2)
  goes_left even =
      subst (λ l. IsAhead top cells a x (Left k) l (rest / 2)) (ap (λ b. cond b cell.right cell.left) even)
      (further (Left k) refl within (λ first new u at. ap (option_and_then (λ (c : VarCell). c.left)) at ∙ sym (ap (λ b. cond b u.right u.left) even)))

-- a link that leads nowhere
pub nowhere : (n : ℕ) (cells : List VarCell) (a : ActId) (x : List ℕ) (rest i : ℕ) → found n cells a x rest None ≡ Some i → ⊥
nowhere zero cells a x rest i e = cc
nowhere (suc n) cells a x rest i e = cc

-- the search ends at a place whose link leads nowhere
pub ends : (top : Option ℕ) (cells : List VarCell) (a : ActId) (x : List ℕ) (place : Place) (link : Option ℕ) (rest : ℕ) → IsAhead top cells a x place link rest → link ≡ None → IsOpen top cells a x place
ends top cells a x place link rest h e = record {
  empty = sym h.at ∙ e;
  lives = h.lives;
  none = λ n i f. nowhere n cells a x rest i (subst (λ l. found n cells a x rest l ≡ Some i) e (h.kept n i f));
  leads = λ first new i cell s ext at is var.
      let one : found 1 new a x rest (link_at first new place) ≡ Some i = found_at new a x 0 rest (link_at first new place) i cell at is ∙ ap (λ b. cond b (Some i) None) var in
      let z : after_place place + 1 ≡ suc (after_place place) = omega arith in
      subst (λ m. found m new a x (digits x) first ≡ Some i) z (h.leads first new 1 i s ext one);
}
