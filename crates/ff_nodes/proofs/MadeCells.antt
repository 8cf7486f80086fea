-- Cells with those of a made tree behind them.
use Rattle.std.proofs.Common.{◌≡◌, ℕ, zero, suc, ◌+◌, ◌-◌, ◌<◌, ◌≤◌, ◌⊎◌, inl, inr, nat_lt, Bool, true, false, Option, Some, None, is_some, List, [], ◌∷◌, ◌++◌, length, get_or, arith, refl, sym, subst, ap, ◌∙◌}
use Rattle.std.specs.List.{AllByRecursion}
use Rattle.std.proofs.lemmas.Bool.Decides.{nat_tests}
use Rattle.std.proofs.lemmas.List.{length-map, length-append, get_or_append_left, get_or-append-add, get_or_past}
use Rattle.ff_value.specs.declared.ids.NodeId.{NodeId}
use Rattle.ff_machine.specs.declared.limits.TheConstants.{MOST_NODES}
use Rattle.ff_machine.specs.Alone.{AreNodes}
use Rattle.ff_machine.specs.Documents.{Laid, with_tree}
use Rattle.ff_machine.specs.Nodes.{Node, has_room, no_node, node_at, parent}
use Rattle.ff_machine.proofs.Depths.{parent_made}
use Rattle.ff_nodes.specs.declared.cell.NodeCell.{NodeCell}
use Rattle.ff_nodes.specs.Cells.{AreCells, AreMarked, cell_at, no_cell, nodes_of}
use Rattle.ff_nodes.specs.Laying.{AreNew, HasOwn}
use Rattle.ff_nodes.specs.Marked.{AreWithin}
use Rattle.ff_nodes.specs.Raised.{AreMarkedUpTo, ArePast}
use Rattle.ff_nodes.specs.Room.{room_left}
use Rattle.ff_nodes.proofs.LaidUp.{AreUp, are_past}
use Rattle.ff_nodes.proofs.Lacking.{count_cells}
use Rattle.ff_nodes.proofs.NewCells.{new_length, new_nodes}
use Rattle.ff_nodes.proofs.Rooms.{is_left, too_large}

-- a node that has a parent was made
pub child_lives : (nodes : List Node) (n p : NodeId) → parent nodes n ≡ Some p → n.0 < length nodes
child_lives nodes n p e = by (nat_lt n.0 (length nodes)) refl where
  by : (b : Bool) → nat_lt n.0 (length nodes) ≡ b → n.0 < length nodes
  by true t = grind (arith, nat_tests, t)
  by false t =
      let past : length nodes ≤ n.0 = grind (arith, nat_tests, t) in
      let none : parent nodes n ≡ None = ap (λ (m : Node). m.parent) (get_or_past nodes n.0 no_node past) in
      let both : None ≡ Some p = sym none ∙ e in
      cc

own_at : (cells : List NodeCell) (i : ℕ) → AllByRecursion HasOwn cells → i < length cells → HasOwn (get_or cells i no_cell)
own_at [] i all less = absurd (omega (arith, less))
own_at (c ∷ cs) zero all less = all.0
own_at (c ∷ cs) (suc i) all less = own_at cs i all.1 (omega (arith, less))

module _ (old new : List NodeCell) (ns : List Node) (are : AreCells old) (laid : AreNew old new ns) where
  old_cell : (m : NodeId) → m.0 < length old → cell_at new m ≡ cell_at old m
  old_cell m less = ap (λ cells. cell_at cells m) laid.cells ∙ get_or_append_left old laid.more no_cell m.0 less

  new_own : (m : NodeId) → length old ≤ m.0 → m.0 < length new → HasOwn (cell_at new m)
  new_own m le less =
      let i = m.0 - length old in
      let there : length old + i ≡ m.0 = omega (arith, le) in
      let all : length new ≡ length old + length laid.more = ap length laid.cells ∙ length-append old laid.more in
      let at : cell_at new m ≡ get_or laid.more i no_cell = ap (λ cells. cell_at cells m) laid.cells ∙ ap (λ k. get_or (old ++ laid.more) k no_cell) (sym there) ∙ get_or-append-add old laid.more i no_cell in
      subst HasOwn (sym at) (own_at laid.more i laid.own (omega (arith, there, all, less)))

  own : (m : NodeId) → m.0 < length new → HasOwn (cell_at new m)
  own m less = by (nat_lt m.0 (length old)) refl where
    by : (b : Bool) → nat_lt m.0 (length old) ≡ b → HasOwn (cell_at new m)
    by true t = let here : m.0 < length old = grind (arith, nat_tests, t) in subst HasOwn (sym (old_cell m here)) (are.marks.own m here)
    by false t = new_own m (grind (arith, nat_tests, t)) less

  within_old : (m q : NodeId) → m.0 < length old → parent (nodes_of new) m ≡ Some q → AreWithin (cell_at new m).marks (cell_at new q).marks
  within_old m q less is =
      let count : length (nodes_of old) ≡ length old = length-map old (λ (c : NodeCell). c.node) in
      let same : node_at (nodes_of new) m ≡ node_at (nodes_of old) m = ap (λ nodes. node_at nodes m) (new_nodes old new ns laid) ∙ get_or_append_left (nodes_of old) ns no_node m.0 (omega (arith, count, less)) in
      let before : parent (nodes_of old) m ≡ Some q = ap (λ (n : Node). n.parent) (sym same) ∙ is in
      let up : q.0 < length old = let lives = parent_made (nodes_of old) are.nodes.trees m q before in omega (arith, lives, count) in
      subst (λ (c : NodeCell). AreWithin c.marks (cell_at new q).marks) (sym (old_cell m less)) (subst (λ (c : NodeCell). AreWithin (cell_at old m).marks c.marks) (sym (old_cell q up)) (are.marks.within m q before))

  -- marks of made nodes are still to be raised
  pub marked_new : AreMarkedUpTo (length old) (length new) new
  marked_new = record {
    own = own;
    within = λ m q picked is. by m q picked is;
  }
    where
      by : (m q : NodeId) → (m.0 < length old) ⊎ (length new ≤ m.0) → parent (nodes_of new) m ≡ Some q → AreWithin (cell_at new m).marks (cell_at new q).marks
      by m q (inl less) is = within_old m q less is
      by m q (inr past) is =
          let count : length (nodes_of new) ≡ length new = length-map new (λ (c : NodeCell). c.node) in
          let lives = child_lives (nodes_of new) m q is in
          absurd (omega (arith, past, lives, count))

-- A tree that is laid behind the nodes of a fork.

-- the number of the first new node
pub made_first : (old start : List NodeCell) (nodes : List Node) (n : ℕ) → nodes_of old ≡ nodes → start ≡ old → n ≡ length nodes → n ≡ length start
made_first old start nodes n view same first = first ∙ ap length (sym view) ∙ count_cells old ∙ ap length (sym same)

-- the parents of the new nodes stand before them
pub made_past : (start laid : List NodeCell) (ns : List Node) (n : ℕ) → n ≡ length start → AreNew start laid ns → AreUp n n ns → ArePast n (nodes_of laid)
made_past start laid ns n first new up =
    let count : length (nodes_of start) ≡ n = count_cells start ∙ sym first in
    let past = are_past (nodes_of start) ns (subst (λ k. AreUp k k ns) (sym count) up) in
    subst (λ all. ArePast n all) (sym (new_nodes start laid ns new)) (subst (λ k. ArePast k (nodes_of start ++ ns)) count past)

-- the marks of the new nodes are still to be raised
pub made_marked : (old start laid : List NodeCell) (ns : List Node) (n : ℕ) → start ≡ old → n ≡ length start → AreCells old → AreNew start laid ns → AreMarkedUpTo n (length laid) laid
made_marked old start laid ns n same first are new =
    subst (λ k. AreMarkedUpTo k (length laid) laid) (sym first) (marked_new start laid ns (subst AreCells (sym same) are) new)

-- how many cells there are then
pub made_length : (start laid : List NodeCell) (d : Laid) (n : ℕ) → n ≡ length start → ((first : ℕ) (under : Option NodeId) → length (d.nodes first under) ≡ d.size) → AreNew start laid (d.nodes (length start) None) → length laid ≡ n + d.size
made_length start laid d n first sized new =
    let all = new_length start laid (d.nodes (length start) None) new in
    let size = sized (length start) None in
    omega (arith, all, size, first)

-- the nodes are those before with the tree
pub made_nodes : (old start laid done : List NodeCell) (nodes : List Node) (d : Laid) → nodes_of old ≡ nodes → start ≡ old → AreNew start laid (d.nodes (length start) None) → nodes_of done ≡ nodes_of laid → nodes_of done ≡ with_tree nodes d
made_nodes old start laid done nodes d view same new raised =
    let before : nodes_of start ≡ nodes = ap nodes_of same ∙ view in
    let count : length start ≡ length nodes = sym (count_cells start) ∙ ap length before in
    raised ∙ new_nodes start laid (d.nodes (length start) None) new
    ∙ ap (λ ns. ns ++ d.nodes (length start) None) before
    ∙ ap (λ k. nodes ++ d.nodes k None) count

-- so they are valid cells
pub made_cells : (old start laid done : List NodeCell) (nodes : List Node) (d : Laid) → nodes_of old ≡ nodes → start ≡ old → AreNew start laid (d.nodes (length start) None) → nodes_of done ≡ nodes_of laid → AreMarked done → AreNodes (with_tree nodes d) → AreCells done
made_cells old start laid done nodes d view same new raised marked valid = record {
  nodes = subst AreNodes (sym (made_nodes old start laid done nodes d view same new raised)) valid;
  marks = marked;
}

-- Room.

-- where something is left there is room
pub room_there : (nodes : List Node) (size n : ℕ) (o : Option ℕ) → n ≡ length nodes → n ≤ MOST_NODES → o ≡ room_left (MOST_NODES - n) size → is_some o ≡ true → has_room nodes size ≡ true
room_there nodes size n None count few left none = cc
room_there nodes size n (Some rest) count few left none =
    let is = is_left (MOST_NODES - n) size rest left in
    let fits = is.fits in
    let enough : length nodes + size ≤ MOST_NODES = omega (arith, count, few, fits) in
    grind (arith, nat_tests, enough)

-- and where nothing is there is none
pub room_missing : (nodes : List Node) (size n : ℕ) (o : Option ℕ) → n ≡ length nodes → n ≤ MOST_NODES → o ≡ room_left (MOST_NODES - n) size → is_some o ≡ false → has_room nodes size ≡ false
room_missing nodes size n (Some rest) count few left none = cc
room_missing nodes size n None count few left none =
    let large = too_large (MOST_NODES - n) size left in
    let over : MOST_NODES < length nodes + size = omega (arith, count, few, large) in
    grind (arith, nat_tests, over)
