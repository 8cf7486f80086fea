-- Marks that are raised to the node above.
use Rattle.std.proofs.Common.{◌≡◌, ◌≢◌, ℕ, ◌-◌, ◌<◌, ◌≤◌, ◌⊎◌, inl, inr, ◌==◌, nat_lt, Bool, true, false, Option, Some, None, List, length, set, arith, refl, sym, subst, ap, ◌∙◌}
use Rattle.std.proofs.lemmas.Bool.Decides.{nat_tests}
use Rattle.std.proofs.lemmas.List.{length-map, map-set, set-get_or, get_or-set_same, get_or-set_other}
use Rattle.ff_value.specs.declared.ids.NodeId.{NodeId}
use Rattle.ff_machine.specs.Nodes.{Node, no_node, parent, node_at}
use Rattle.ff_machine.specs.Alone.{AreTrees}
use Rattle.ff_machine.proofs.Depths.{parent_made}
use Rattle.ff_nodes.specs.declared.cell.NodeCell.{NodeCell}
use Rattle.ff_nodes.specs.declared.marks.Marks.{Marks}
use Rattle.ff_nodes.specs.Cells.{AreMarked, cell_at, no_cell, nodes_of}
use Rattle.ff_nodes.specs.Marked.{IsOwn, AreWithin}
use Rattle.ff_nodes.specs.Raised.{AreMarkedWhere, AreMarkedBut, AreMarkedUpTo, ArePast, IsRaised}
use Rattle.ff_nodes.proofs.Lacking.{node_of_cell}
use Rattle.ff_nodes.proofs.Marking.{within_itself, within_through, own_within}

-- two numbers are one, or differ
pub same_or_other : (n k : NodeId) → (n ≡ k) ⊎ (n.0 ≢ k.0)
same_or_other n k = by (n.0 == k.0) refl where
  by : (b : Bool) → (n.0 == k.0) ≡ b → (n ≡ k) ⊎ (n.0 ≢ k.0)
  by true e = let same : n.0 ≡ k.0 = grind (arith, nat_tests, e) in inl (ap (λ i. let m : NodeId = record { 0 = i } in m) same)
  by false e = inr (λ same. grind (arith, nat_tests, e, same))

-- marks that are written
pub raised_written : (cells : List NodeCell) (n : NodeId) (marks more : Marks) (node : Node) → n.0 < length cells → node ≡ (cell_at cells n).node → AreWithin (cell_at cells n).marks more → AreWithin marks more → IsRaised cells (set cells n.0 (record { node = node; marks = more })) n marks
raised_written cells n marks more node less same mine others =
    let cell : NodeCell = record { node = node; marks = more } in
    let here : cell_at (set cells n.0 cell) n ≡ cell = get_or-set_same cells n.0 cell no_cell less in
    record {
      nodes =
          map-set (λ (c : NodeCell). c.node) cells n.0 cell
          ∙ ap (set (nodes_of cells) n.0) (same ∙ sym (node_of_cell cells n))
          ∙ set-get_or (nodes_of cells) n.0 no_node;
      others = λ m other. get_or-set_other cells n.0 m.0 cell no_cell other;
      more = subst (λ (c : NodeCell). AreWithin (cell_at cells n).marks c.marks) (sym here) mine;
      has = subst (λ (c : NodeCell). AreWithin marks c.marks) (sym here) others;
    }

pub raised_length : (old new : List NodeCell) → nodes_of new ≡ nodes_of old → length new ≡ length old
raised_length old new e = sym (length-map new (λ (c : NodeCell). c.node)) ∙ ap length e ∙ length-map old (λ (c : NodeCell). c.node)

module _ (old new : List NodeCell) (n p : NodeId) (there : p.0 < length old) (up : parent (nodes_of old) n ≡ Some p) (raised : IsRaised old new p (cell_at old n).marks) where
  same_length : length new ≡ length old
  same_length = raised_length old new raised.nodes

  -- the node of each cell stays
  same_node : (m : NodeId) → (cell_at new m).node ≡ (cell_at old m).node
  same_node m = sym (node_of_cell new m) ∙ ap (λ ns. node_at ns m) raised.nodes ∙ node_of_cell old m

  -- marks only grow
  grown : (m : NodeId) → AreWithin (cell_at old m).marks (cell_at new m).marks
  grown m = by (same_or_other m p) where
    by : (m ≡ p) ⊎ (m.0 ≢ p.0) → AreWithin (cell_at old m).marks (cell_at new m).marks
    by (inl e) = subst (λ k. AreWithin (cell_at old k).marks (cell_at new k).marks) (sym e) raised.more
    by (inr other) = subst (λ (c : NodeCell). AreWithin (cell_at old m).marks c.marks) (sym (raised.others m other)) (within_itself (cell_at old m).marks)

  -- after the marks of a node were raised to its parent, those of this node are within the parent's
  -- too, and those of all others stay so but for the parent
  pub marked_more : (Picks Next : NodeId → Type 0) → AreMarkedWhere Picks old → ((m : NodeId) → Next m → (m.0 ≢ p.0) × ((m ≡ n) ⊎ Picks m)) → AreMarkedWhere Next new
  marked_more Picks Next marked next = record {
    own = λ m less.
        let e = same_length in
        let here : m.0 < length old = omega (arith, e, less) in
        own_within (cell_at new m).node (cell_at old m).marks (cell_at new m).marks (subst (λ node. IsOwn node (cell_at old m).marks) (sym (same_node m)) (marked.own m here)) (grown m);
    within = λ m q picked is.
        let which = next m picked in
        within m q which.0 which.1 (ap (λ ns. parent ns m) (sym raised.nodes) ∙ is);
  }
    where
      same_marks : (m : NodeId) → m.0 ≢ p.0 → (cell_at new m).marks ≡ (cell_at old m).marks
      same_marks m other = ap (λ (c : NodeCell). c.marks) (raised.others m other)

      within : (m q : NodeId) → m.0 ≢ p.0 → (m ≡ n) ⊎ Picks m → parent (nodes_of old) m ≡ Some q → AreWithin (cell_at new m).marks (cell_at new q).marks
      within m q other (inl e) is =
          let its : p ≡ q = let has : parent (nodes_of old) n ≡ Some q = subst (λ k. parent (nodes_of old) k ≡ Some q) e is in cc in
          subst (λ k. AreWithin k (cell_at new q).marks) (sym (same_marks m other)) (subst (λ k. AreWithin (cell_at old k).marks (cell_at new q).marks) (sym e) (subst (λ k. AreWithin (cell_at old n).marks (cell_at new k).marks) its raised.has))
      within m q other (inr picked) is =
          subst (λ k. AreWithin k (cell_at new q).marks) (sym (same_marks m other)) (within_through (cell_at old m).marks (cell_at old q).marks (cell_at new q).marks (marked.within m q picked is) (grown q))

-- a node without a parent may be picked too
pub marked_top : (cells : List NodeCell) (n : NodeId) (Picks Next : NodeId → Type 0) → parent (nodes_of cells) n ≡ None → AreMarkedWhere Picks cells → ((m : NodeId) → Next m → (m ≡ n) ⊎ Picks m) → AreMarkedWhere Next cells
marked_top cells n Picks Next top marked next = record {
  own = marked.own;
  within = λ m q picked is. by m q is (next m picked);
}
  where
    by : (m q : NodeId) → parent (nodes_of cells) m ≡ Some q → (m ≡ n) ⊎ Picks m → AreWithin (cell_at cells m).marks (cell_at cells q).marks
    by m q is (inl e) = absurd (let has : parent (nodes_of cells) n ≡ Some q = subst (λ k. parent (nodes_of cells) k ≡ Some q) e is in let both : None ≡ Some q = sym top ∙ has in cc)
    by m q is (inr picked) = marked.within m q picked is

-- where each node is picked, all is marked
pub all_marked : (cells : List NodeCell) (Picks : NodeId → Type 0) → AreMarkedWhere Picks cells → ((m : NodeId) → Picks m) → AreMarked cells
all_marked cells Picks marked each = record { own = marked.own; within = λ n p is. marked.within n p (each n) is }

-- One node after another, the last first.

-- the parent of the node before a number
pub record IsAbove (first i : ℕ) (cells : List NodeCell) (p : NodeId) : Type 0 where
  pub low : first ≤ p.0
  pub before : p.0 < i - 1
  pub up : parent (nodes_of cells) (record { 0 = i - 1 }) ≡ Some p

-- what a cell has as its node's parent
pub parent_is : (cells : List NodeCell) (n : NodeId) (cell : NodeCell) (o o' : Option NodeId) → cell ≡ cell_at cells n → o ≡ cell.node.parent → o ≡ o' → parent (nodes_of cells) n ≡ o'
parent_is cells n cell o o' read has is = ap (λ (x : Node). x.parent) (node_of_cell cells n) ∙ ap (λ (x : NodeCell). x.node.parent) (sym read) ∙ sym has ∙ is

pub is_above : (first i : ℕ) (cells base : List NodeCell) (p : NodeId) (cell : NodeCell) (o : Option NodeId) → first < i → nodes_of cells ≡ nodes_of base → ArePast first (nodes_of base)
    → cell ≡ cell_at cells (record { 0 = i - 1 }) → o ≡ cell.node.parent → o ≡ Some p → IsAbove first i cells p
is_above first i cells base p cell o less same past read has is =
    let up = parent_is cells (record { 0 = i - 1 }) cell o (Some p) read has is in
    let le : first ≤ i - 1 = omega (arith, less) in
    let above = past (record { 0 = i - 1 }) p le (ap (λ ns. parent ns (record { 0 = i - 1 })) (sym same) ∙ up) in
    record { low = above.0; before = above.1; up = up }

-- the nodes up to one more
picks_next : (first i : ℕ) (m : NodeId) → first < i → (m.0 < first) ⊎ (i - 1 ≤ m.0) → (m ≡ record { 0 = i - 1 }) ⊎ ((m.0 < first) ⊎ (i ≤ m.0))
picks_next first i m less (inl low) = inr (inl low)
picks_next first i m less (inr high) = by (same_or_other m (record { 0 = i - 1 })) where
  by : (m ≡ record { 0 = i - 1 }) ⊎ (m.0 ≢ i - 1) → (m ≡ record { 0 = i - 1 }) ⊎ ((m.0 < first) ⊎ (i ≤ m.0))
  by (inl e) = inl e
  by (inr other) = inr (inr (omega (arith, high, other, less)))

apart : (first i : ℕ) (m p : NodeId) → first ≤ p.0 → p.0 < i - 1 → (m.0 < first) ⊎ (i - 1 ≤ m.0) → m.0 ≢ p.0
apart first i m p low before (inl less) same = omega (arith, low, less, same)
apart first i m p low before (inr high) same = omega (arith, before, high, same)

-- after the marks of one more were raised
pub step_marked : (first i : ℕ) (cells new : List NodeCell) (p : NodeId) (cell : NodeCell) → first < i → i ≤ length cells → IsAbove first i cells p → cell ≡ cell_at cells (record { 0 = i - 1 })
    → IsRaised cells new p cell.marks → AreMarkedUpTo first i cells → AreMarkedUpTo first (i - 1) new
step_marked first i cells new p cell less within above read raised marked =
    let before = above.before in
    marked_more cells new (record { 0 = i - 1 }) p (omega (arith, before, within)) above.up
    (subst (λ (x : NodeCell). IsRaised cells new p x.marks) read raised)
    (λ m. (m.0 < first) ⊎ (i ≤ m.0)) (λ m. (m.0 < first) ⊎ (i - 1 ≤ m.0)) marked
    (λ m picked. (apart first i m p above.low above.before picked, picks_next first i m less picked))

-- and where the one more has no parent
pub none_marked : (first i : ℕ) (cells : List NodeCell) (cell : NodeCell) (o : Option NodeId) → first < i → cell ≡ cell_at cells (record { 0 = i - 1 }) → o ≡ cell.node.parent → o ≡ None
    → AreMarkedUpTo first i cells → AreMarkedUpTo first (i - 1) cells
none_marked first i cells cell o less read has none marked =
    marked_top cells (record { 0 = i - 1 }) (λ m. (m.0 < first) ⊎ (i ≤ m.0)) (λ m. (m.0 < first) ⊎ (i - 1 ≤ m.0)) (parent_is cells (record { 0 = i - 1 }) cell o None read has none) marked
    (λ m picked. picks_next first i m less picked)

-- at the first one all are marked
pub all_raised : (first i : ℕ) (cells : List NodeCell) → i ≤ first → AreMarkedUpTo first i cells → AreMarked cells
all_raised first i cells le marked = all_marked cells (λ m. (m.0 < first) ⊎ (i ≤ m.0)) marked (λ m. by m (nat_lt m.0 first) refl) where
  by : (m : NodeId) (b : Bool) → nat_lt m.0 first ≡ b → (m.0 < first) ⊎ (i ≤ m.0)
  by m true e = inl (grind (arith, nat_tests, e))
  by m false e = inr (let past : first ≤ m.0 = grind (arith, nat_tests, e) in omega (arith, past, le))

-- Upwards.

-- all but the parent are marked, after a node's marks were raised to it
pub above_marked : (cells new : List NodeCell) (n p : NodeId) → AreTrees (nodes_of cells) → n.0 < length cells → parent (nodes_of cells) n ≡ Some p → IsRaised cells new p (cell_at cells n).marks → AreMarkedBut n cells → AreMarkedBut p new
above_marked cells new n p trees less up raised marked =
    let count : length (nodes_of cells) ≡ length cells = length-map cells (λ (c : NodeCell). c.node) in
    let made = parent_made (nodes_of cells) trees n p up in
    marked_more cells new n p (omega (arith, made, count)) up raised (λ m. m.0 ≢ n.0) (λ m. m.0 ≢ p.0) marked (λ m other. (other, same_or_other m n))

-- a node without a parent has its marks within those above it
pub top_marked : (cells : List NodeCell) (n : NodeId) → parent (nodes_of cells) n ≡ None → AreMarkedBut n cells → AreMarked cells
top_marked cells n top marked = all_marked cells (λ m. Unit {0}) (marked_top cells n (λ m. m.0 ≢ n.0) (λ m. Unit {0}) top marked (λ m all. same_or_other m n)) (λ m. tt)
