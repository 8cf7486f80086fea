-- A search for a variable: what it comes to it comes to in more steps, and in cells that extend
-- these.
use Rattle.std.proofs.Common.{◌≡◌, ℕ, zero, suc, ◌/◌, ◌%◌, ◌≤◌, ⊎_elim, Bool, true, false, cond, ◌==◌, ◌&&◌, Option, Some, List, bytes_eq, option_and_then, refl, ap, subst, ◌∙◌, arith}
use Rattle.std.specs.List.{slice_get}
use Rattle.std.proofs.lemmas.Bool.{cases_lt}
use Rattle.ff_value.specs.declared.ids.ActId.{ActId}
use Rattle.ff_acts.specs.declared.cells.VarCell.{VarCell}
use Rattle.ff_acts.specs.declared.searching.Place.{Place}
use Rattle.ff_acts.specs.declared.searching.Place.TheVariants.{Top, Left, Right}
use Rattle.ff_acts.specs.Held.{is_var, link_of, found}
use Rattle.ff_acts.specs.Stops.{link_at, Stays, CellStays, Extends}
use Rattle.ff_acts.proofs.Places.{some_of}

module _ (cells : List VarCell) (a : ActId) (x : List ℕ) where
  abbrev at_cell : ℕ → ℕ → ℕ → VarCell → Option ℕ
  at_cell n rest k cell = cond (is_var a x cell) (Some k) (found n cells a x (rest / 2) (link_of cell rest))

  abbrev at_place : ℕ → ℕ → ℕ → Option ℕ
  at_place n rest k = option_and_then (at_cell n rest k) (slice_get cells k)

  -- a step of the search
  pub found_at : (n rest : ℕ) (link : Option ℕ) (k : ℕ) (cell : VarCell) → link ≡ Some k → slice_get cells k ≡ Some cell → found (suc n) cells a x rest link ≡ cond (is_var a x cell) (Some k) (found n cells a x (rest / 2) (link_of cell rest))
  found_at n rest link k cell e f = ap (option_and_then (at_place n rest)) e ∙ ap (option_and_then (at_cell n rest k)) f

  -- a search that came to something made its first step
  pub Step : ℕ → ℕ → Option ℕ → ℕ → Type 0
  Step n rest link i = (k : ℕ) × (cell : VarCell) × (link ≡ Some k) × (slice_get cells k ≡ Some cell) × (at_cell n rest k cell ≡ Some i)

  stepped : (n rest : ℕ) (link : Option ℕ) (i : ℕ) → found (suc n) cells a x rest link ≡ Some i → Step n rest link i
  unfolding Step
  stepped n rest link i e =
      let s = some_of (at_place n rest) link i e in
      let t = some_of (at_cell n rest s.0) (slice_get cells s.0) i s.2 in
      (s.0, t.0, s.1, t.1, t.2)

keep : (b c : Bool) (p f g : Option ℕ) (i : ℕ) → c ≡ b → (f ≡ Some i → g ≡ Some i) → cond b p f ≡ Some i → cond c p g ≡ Some i
keep true true p f g i e h is = is
keep true false p f g i e h is = cc
keep false true p f g i e h is = cc
keep false false p f g i e h is = h is

-- in one step more, and in any number more
pub found_more : (n : ℕ) (cells : List VarCell) (a : ActId) (x : List ℕ) (rest : ℕ) (link : Option ℕ) (i : ℕ) → found n cells a x rest link ≡ Some i → found (suc n) cells a x rest link ≡ Some i
unfolding Step
found_more zero cells a x rest link i e = cc
found_more (suc n) cells a x rest link i e =
    let s = stepped cells a x n rest link i e in
    found_at cells a x (suc n) rest link s.0 s.1 s.2 s.3
    ∙ keep (is_var a x s.1) (is_var a x s.1) (Some s.0) _ _ i refl (found_more n cells a x (rest / 2) (link_of s.1 rest) i) s.4

pub found_within : (m n : ℕ) (cells : List VarCell) (a : ActId) (x : List ℕ) (rest : ℕ) (link : Option ℕ) (i : ℕ) → m ≤ n → found m cells a x rest link ≡ Some i → found n cells a x rest link ≡ Some i
found_within m zero cells a x rest link i h e = let z : m ≡ 0 = omega arith in subst (λ k. found k cells a x rest link ≡ Some i) z e
found_within m (suc n) cells a x rest link i h e =
    ⊎_elim
    (λ l. found_more n cells a x rest link i (found_within m n cells a x rest link i (omega (arith, l)) e))
    (λ g. let z : m ≡ suc n = omega (arith, g) in subst (λ k. found k cells a x rest link ≡ Some i) z e)
    (cases_lt m (suc n))

-- Cells that extend these.

stays_cond : (b : Bool) (l r m s : Option ℕ) → Stays l m → Stays r s → Stays (cond b r l) (cond b s m)
stays_cond true l r m s left right = right
stays_cond false l r m s left right = left

pub same_var : (a : ActId) (x : List ℕ) (cell later : VarCell) → CellStays cell later → is_var a x later ≡ is_var a x cell
same_var a x cell later stays = ap (λ (o : ActId). o.0 == a.0 && bytes_eq later.name x) stays.owner ∙ ap (λ n. cell.owner.0 == a.0 && bytes_eq n x) stays.name

pub found_extends : (n : ℕ) (cells new : List VarCell) (a : ActId) (x : List ℕ) (rest : ℕ) (link later : Option ℕ) (i : ℕ) → Extends cells new → Stays link later → found n cells a x rest link ≡ Some i → found n new a x rest later ≡ Some i
unfolding Step
found_extends zero cells new a x rest link later i ext stays e = cc
found_extends (suc n) cells new a x rest link later i ext stays e =
    let s = stepped cells a x n rest link i e in
    let u = ext s.0 s.1 s.3 in
    found_at new a x n rest later s.0 u.0 (stays s.0 s.2) u.1
    ∙ keep (is_var a x s.1) (is_var a x u.0) (Some s.0) _ _ i (same_var a x s.1 u.0 u.2)
    (found_extends n cells new a x (rest / 2) (link_of s.1 rest) (link_of u.0 rest) i ext (stays_cond (rest % 2 == 1) s.1.left s.1.right u.0.left u.0.right u.2.left u.2.right)) s.4

-- a link of a place stays
pub link_stays : (top first : Option ℕ) (cells new : List VarCell) (place : Place) → Stays top first → Extends cells new → Stays (link_at top cells place) (link_at first new place)
link_stays top first cells new Top t ext j e = t j e
link_stays top first cells new (Left k) t ext j e =
    let s = some_of (λ (cell : VarCell). cell.left) (slice_get cells k) j e in
    let u = ext k s.0 s.1 in
    ap (option_and_then (λ (cell : VarCell). cell.left)) u.1 ∙ u.2.left j s.2
link_stays top first cells new (Right k) t ext j e =
    let s = some_of (λ (cell : VarCell). cell.right) (slice_get cells k) j e in
    let u = ext k s.0 s.1 in
    ap (option_and_then (λ (cell : VarCell). cell.right)) u.1 ∙ u.2.right j s.2
