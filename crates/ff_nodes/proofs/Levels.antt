-- Marks that are raised level by level, the deepest first.
use Rattle.std.proofs.Common.{◌≡◌, ◌≢◌, ℕ, ◌+◌, ◌-◌, ◌<◌, ◌≤◌, ◌⊎◌, inl, inr, ⊎_elim, Some, None, List, length, sym, ap, ◌∙◌, arith}
use Rattle.std.proofs.lemmas.Bool.{cases_lt}
use Rattle.std.proofs.lemmas.List.{get_or_past, length-map}
use Rattle.ff_value.specs.declared.ids.NodeId.{NodeId}
use Rattle.ff_machine.specs.Nodes.{Node, no_node, parent, depth}
use Rattle.ff_machine.specs.Alone.{AreTrees}
use Rattle.ff_machine.proofs.Depths.{depth_up, parent_made}
use Rattle.ff_nodes.specs.declared.cell.NodeCell.{NodeCell}
use Rattle.ff_nodes.specs.Cells.{AreMarked, cell_at, nodes_of}
use Rattle.ff_nodes.specs.Raised.{AreMarkedWhere, IsRaised}
use Rattle.ff_nodes.specs.Recorded.{AreMarkedBelow, AreMarkedFrom}
use Rattle.ff_nodes.proofs.Adopting.{same_id}
use Rattle.ff_nodes.proofs.RaisedCells.{marked_more, marked_top}

-- fewer are picked
fewer_marked : (Picks Next : NodeId → Type 0) (cells : List NodeCell) → ((m : NodeId) → Next m → Picks m) → AreMarkedWhere Picks cells → AreMarkedWhere Next cells
fewer_marked Picks Next cells next marked = record { own = marked.own; within = λ m q picked up. marked.within m q (next m picked) up }

-- those that are deeper, and those before a number that are as deep
abbrev pub Raised : List Node → ℕ → ℕ → NodeId → Type 0
Raised nodes deep n m = (deep < depth nodes m) ⊎ ((depth nodes m ≡ deep) × (m.0 < n))

module _ (base : List Node) (deep : ℕ) where
  pub level_begun : (cells : List NodeCell) → AreMarkedBelow base deep cells → AreMarkedWhere (Raised base deep 0) cells
  level_begun cells marked = fewer_marked (λ m. deep < depth base m) (Raised base deep 0) cells (λ m picked. ⊎_elim (λ h. h) (λ h. absurd (omega (arith, h.1))) picked) marked

  pub level_ended : (cells : List NodeCell) (n : ℕ) → nodes_of cells ≡ base → length base ≤ n → 0 < deep → AreMarkedWhere (Raised base deep n) cells → AreMarkedFrom base deep cells
  level_ended cells n same past some marked = record {
    own = marked.own;
    within = λ m q picked up.
        ⊎_elim
        (λ below. marked.within m q (⊎_elim (λ h. inl h) (λ h. inr (omega (arith, h, picked), omega (arith, below, past))) (cases_lt deep (depth base m))) up)
        (λ far.
        let none : parent base m ≡ None = ap (λ (x : Node). x.parent) (get_or_past base m.0 no_node far) in
        absurd (let both : None ≡ Some q = sym none ∙ ap (λ ns. parent ns m) (sym same) ∙ up in cc))
        (cases_lt m.0 (length base));
  }

  -- a node that doesn't stand so deep
  pub level_passed : (cells : List NodeCell) (n : NodeId) → depth base n ≢ deep → AreMarkedWhere (Raised base deep n.0) cells → AreMarkedWhere (Raised base deep (n.0 + 1)) cells
  level_passed cells n other marked =
      fewer_marked (Raised base deep n.0) (Raised base deep (n.0 + 1)) cells
      (λ m picked. ⊎_elim (λ h. inl h) (λ h. inr (h.0, ⊎_elim (λ less. less) (λ past. absurd (other (ap (depth base) (same_id n m (omega (arith, past, h.1))) ∙ h.0))) (cases_lt m.0 n.0))) picked) marked

  one_of_them : (n m : NodeId) → Raised base deep (n.0 + 1) m → (m ≡ n) ⊎ Raised base deep n.0 m
  one_of_them n m picked = ⊎_elim (λ h. inr (inl h)) (λ h. ⊎_elim (λ less. inr (inr (h.0, less))) (λ past. inl (same_id m n (omega (arith, past, h.1)))) (cases_lt m.0 n.0)) picked

  -- a node that has no parent
  pub level_top : (cells : List NodeCell) (n : NodeId) → nodes_of cells ≡ base → parent base n ≡ None → AreMarkedWhere (Raised base deep n.0) cells → AreMarkedWhere (Raised base deep (n.0 + 1)) cells
  level_top cells n same top marked = marked_top cells n (Raised base deep n.0) (Raised base deep (n.0 + 1)) (ap (λ ns. parent ns n) same ∙ top) marked (one_of_them n)

  -- a node whose marks were raised
  pub level_more : (cells new : List NodeCell) (n p : NodeId) → AreTrees base → nodes_of cells ≡ base → depth base n ≡ deep → parent base n ≡ Some p → IsRaised cells new p (cell_at cells n).marks
      → AreMarkedWhere (Raised base deep n.0) cells → AreMarkedWhere (Raised base deep (n.0 + 1)) new
  level_more cells new n p trees same at up raised marked =
      let made = parent_made base trees n p up in
      let count = sym (length-map cells (λ (c : NodeCell). c.node)) ∙ ap length same in
      let higher = depth_up base trees n p up in
      marked_more cells new n p (omega (arith, made, count)) (ap (λ ns. parent ns n) same ∙ up) raised (Raised base deep n.0) (Raised base deep (n.0 + 1)) marked
      (λ m picked. (λ e. lower m (same_id m p e) picked, one_of_them n m picked)) where
        lower : (m : NodeId) → m ≡ p → Raised base deep (n.0 + 1) m → ⊥
        lower m e picked =
            let higher = depth_up base trees n p up in
            let is = ap (depth base) e in
            ⊎_elim (λ h. absurd (omega (arith, h, is, higher, at))) (λ h. absurd (omega (arith, h.0, is, higher, at))) picked

pub next_level : (base : List Node) (deep : ℕ) (cells : List NodeCell) → 0 < deep → AreMarkedFrom base deep cells → AreMarkedBelow base (deep - 1) cells
next_level base deep cells some marked = fewer_marked (λ m. deep ≤ depth base m) (λ m. deep - 1 < depth base m) cells (λ m h. omega (arith, h, some)) marked

pub levels_ended : (base : List Node) (deep : ℕ) (cells : List NodeCell) → nodes_of cells ≡ base → AreTrees base → deep ≡ 0 → AreMarkedBelow base deep cells → AreMarked cells
levels_ended base deep cells same trees none marked = record {
  own = marked.own;
  within = λ m q up. marked.within m q (omega (arith, none, depth_up base trees m q (ap (λ ns. parent ns m) (sym same) ∙ up))) up;
}
