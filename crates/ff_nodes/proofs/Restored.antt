-- The nodes that are made of records under their parents.
use Rattle.std.proofs.Common.{◌≡◌, ℕ, zero, suc, ◌+◌, ◌<◌, ◌≤◌, ⊎_elim, ◌==◌, true, false, Option, Some, None, IsSome, List, [], ◌∷◌, ◌++◌, All, count_by, map, take, length, get_or, refl, sym, ap, subst, ◌∙◌, arith}
use Rattle.std.proofs.Math.ListN.{get_or-map}
use Rattle.std.proofs.lemmas.Bool.{cases_lt}
use Rattle.std.proofs.lemmas.List.{get_or_past, get_or_default, length-map, map_push, take_more}
use Rattle.ff_value.specs.declared.ids.NodeId.{NodeId}
use Rattle.ff_machine.specs.declared.limits.TheConstants.{MOST_NODES, MOST_TREE_DEPTH}
use Rattle.ff_machine.specs.Shapes.{page_of}
use Rattle.ff_machine.specs.Nodes.{Node, no_node, node_at, children, parent, depth}
use Rattle.ff_machine.specs.Alone.{AreNodes, AreTrees, IsNode}
use Rattle.ff_machine.proofs.Depths.{depth_top}
use Rattle.ff_records.specs.Records.{node_rec, node_recs}
use Rattle.ff_records.specs.declared.records.NodeRec.{NodeRec}
use Rattle.ff_nodes.specs.declared.cell.NodeCell.{NodeCell}
use Rattle.ff_nodes.specs.Cells.{nodes_of}
use Rattle.ff_nodes.specs.Recorded.{node_of, made, bare, rec_at, kids, parent_at, IsChild, AreParents, HaveDepths, AreDepths}
use Rattle.ff_nodes.proofs.Adopting.{counted}
use Rattle.ff_nodes.proofs.Deep.{same_depth, bare_parent}

none_some : {A : Type 0} {x : A} → None ≡ Some x → ⊥
none_some e = cc

none_true : false ≡ true → ⊥
none_true e = cc

not_some : {A : Type 0} (o : Option A) → o ≡ None → IsSome o → ⊥
not_some None e is = none_true is
not_some (Some x) e is = none_some (sym e)

pub made_recs : (recs : List NodeRec) (ps : List (Option NodeId)) → length ps ≡ length recs → node_recs (made recs ps) ≡ recs
made_recs [] ps e = refl
made_recs (r ∷ recs) [] e = absurd (omega (arith, e))
made_recs (r ∷ recs) (p ∷ ps) e = ap (λ rest. r ∷ rest) (made_recs recs ps (omega (arith, e)))

made_parents : (recs : List NodeRec) (ps : List (Option NodeId)) → length ps ≡ length recs → map (λ (m : Node). m.parent) (made recs ps) ≡ ps
made_parents [] [] e = refl
made_parents [] (p ∷ ps) e = absurd (omega (arith, e))
made_parents (r ∷ recs) [] e = absurd (omega (arith, e))
made_parents (r ∷ recs) (p ∷ ps) e = ap (λ rest. p ∷ rest) (made_parents recs ps (omega (arith, e)))

-- one node more
pub made_more : (recs : List NodeRec) (ps : List (Option NodeId)) (i : ℕ) (r : NodeRec) (p : Option NodeId) → i < length recs → length ps ≡ length recs → made (take i recs ++ r ∷ []) (take i ps ++ p ∷ []) ≡ made (take i recs) (take i ps) ++ node_of r p ∷ []
made_more recs ps zero r p within e = refl
made_more [] ps (suc i) r p within e = absurd (omega (arith, within))
made_more (s ∷ recs) [] (suc i) r p within e = absurd (omega (arith, e))
made_more (s ∷ recs) (q ∷ ps) (suc i) r p within e = ap (λ (rest : List Node). node_of s q ∷ rest) (made_more recs ps i r p (omega (arith, within)) (omega (arith, e)))

-- and a cell of it
pub cell_more : (recs : List NodeRec) (ps : List (Option NodeId)) (i : ℕ) (d : NodeRec) → i < length recs → length ps ≡ length recs → (cells new : List NodeCell) (cell : NodeCell) → new ≡ cells ++ cell ∷ []
    → cell.node ≡ node_of (get_or recs i d) (get_or ps i None) → nodes_of cells ≡ made (take i recs) (take i ps) → nodes_of new ≡ made (take (i + 1) recs) (take (i + 1) ps)
cell_more recs ps i d within e cells new cell done node so_far =
    ap nodes_of done
    ∙ map_push (λ (c : NodeCell). c.node) cells cell
    ∙ ap (λ (ns : List Node). ns ++ cell.node ∷ []) so_far
    ∙ ap (λ (n : Node). made (take i recs) (take i ps) ++ n ∷ []) node
    ∙ sym (made_more recs ps i (get_or recs i d) (get_or ps i None) within e)
    ∙ ap (λ (rs : List NodeRec). made rs (take i ps ++ get_or ps i None ∷ [])) (sym (take_more recs i d within))
    ∙ ap (λ (qs : List (Option NodeId)). made (take (i + 1) recs) qs) (sym (take_more ps i None (omega (arith, within, e))))

with_parent : (r : NodeRec) (p : Option NodeId) → (IsSome (page_of r.shape) → p ≡ None) → IsNode (node_of r None) → IsNode (node_of r p)
with_parent r p top node = record {
  shape = node.shape;
  handlers = node.handlers;
  form = record { few_handlers = node.form.few_handlers; no_handlers = node.form.no_handlers; no_children = node.form.no_children; no_parent = top };
}

module _ (recs : List NodeRec) (ps : List (Option NodeId)) (are : AreParents recs (length recs) ps) where
  pub count_made : length (made recs ps) ≡ length recs
  count_made = sym (length-map (made recs ps) node_rec) ∙ ap length (made_recs recs ps are.count)

  rec_is : (m : NodeId) → node_rec (node_at (made recs ps) m) ≡ rec_at recs m
  rec_is m = sym (get_or-map node_rec (made recs ps) m.0 no_node) ∙ ap (λ (rs : List NodeRec). get_or rs m.0 (node_rec no_node)) (made_recs recs ps are.count)

  pub parent_is : (m : NodeId) → parent (made recs ps) m ≡ parent_at ps m.0
  parent_is m = sym (get_or-map (λ (x : Node). x.parent) (made recs ps) m.0 no_node) ∙ ap (λ (qs : List (Option NodeId)). get_or qs m.0 None) (made_parents recs ps are.count)

  kids_are : (m : NodeId) → children (made recs ps) m ≡ kids recs m
  kids_are m = ap (λ (r : NodeRec). r.kids) (rec_is m)

  pub lives : (k : ℕ) (p : NodeId) → parent_at ps k ≡ Some p → p.0 < length ps
  lives k p e = omega (arith, (are.sound k p e).0, are.count)

  pub depth_is : (n : NodeId) → depth (made recs ps) n ≡ depth (bare ps) n
  depth_is n = same_depth (made recs ps) (bare ps) (λ m. parent_is m ∙ sym (bare_parent ps m)) n

  children_of : (n : NodeId) → All (λ c. (c.0 < length recs) × (parent_at ps c.0 ≡ Some n)) (kids recs n)
  children_of n = ⊎_elim
      (λ below k d less. let child = are.kept n below k d less in (child.there, child.is))
      (λ past k d less. absurd (omega (arith, less, ap length (ap (λ (r : NodeRec). r.kids) (get_or_past recs n.0 (node_rec no_node) past)))))
      (cases_lt n.0 (length recs))

  pub trees : ((n : NodeId) → depth (bare ps) n ≤ MOST_TREE_DEPTH) → AreTrees (made recs ps)
  trees ends = record {
    below = λ n. subst (All (λ c. c.0 < length (made recs ps))) (sym (kids_are n)) (λ k d less. omega (arith, (children_of n k d less).0, count_made));
    agree = λ n. subst (All (λ c. parent (made recs ps) c ≡ Some n)) (sym (kids_are n)) (λ k d less. parent_is (get_or (kids recs n) k d) ∙ (children_of n k d less).1);
    once = λ n p up. ap (count_by (λ c. c.0 == n.0)) (kids_are p) ∙ (are.sound n.0 p (sym (parent_is n) ∙ up)).1;
    ends = λ n. subst (λ d. d ≤ MOST_TREE_DEPTH) (sym (depth_is n)) (ends n);
  }

  top_of_page : (k : NodeId) (o : Option NodeId) → parent_at ps k.0 ≡ o → IsSome (page_of (rec_at recs k).shape) → o ≡ None
  top_of_page k None e page = refl
  top_of_page k (Some p) e page =
      let sound = are.sound k.0 p e in
      let child = counted (IsChild recs ps p) k (kids recs p) (are.kept p sound.0) sound.1 in
      absurd (not_some (page_of (rec_at recs k).shape) child.no_page page)

  pub nodes_valid : All (λ rec. IsNode (node_of rec None)) recs → All IsNode (made recs ps)
  nodes_valid all = λ k d less.
      let n : NodeId = record { 0 = k } in
      let within : k < length recs = omega (arith, less, count_made) in
      let bare_node = subst (λ r. IsNode (node_of r None)) (sym (rec_is n)) (all k (node_rec no_node) within) in
      let top : IsSome (page_of (node_rec (node_at (made recs ps) n)).shape) → parent (made recs ps) n ≡ None = λ page. parent_is n ∙ top_of_page n (parent_at ps k) refl (subst (λ (r : NodeRec). IsSome (page_of r.shape)) (rec_is n) page) in
      subst IsNode (get_or_default (made recs ps) k no_node d less) (with_parent (node_rec (node_at (made recs ps) n)) (parent (made recs ps) n) top bare_node)

  pub made_valid : All (λ rec. IsNode (node_of rec None)) recs → ((n : NodeId) → depth (bare ps) n ≤ MOST_TREE_DEPTH) → length recs ≤ MOST_NODES → AreNodes (made recs ps)
  made_valid all ends few = record { each = nodes_valid all; trees = trees ends; few = omega (arith, few, count_made) }

  -- valid nodes that have the records have these parents
  module _ (v : List Node) (valid : AreNodes v) (has : node_recs v ≡ recs) where
    its_rec : (m : NodeId) → node_rec (node_at v m) ≡ rec_at recs m
    its_rec m = sym (get_or-map node_rec v m.0 no_node) ∙ ap (λ (rs : List NodeRec). get_or rs m.0 (node_rec no_node)) has

    its_kids : (m : NodeId) → children v m ≡ kids recs m
    its_kids m = ap (λ (r : NodeRec). r.kids) (its_rec m)

    both : (m : NodeId) (one other : Option NodeId) → parent v m ≡ one → parent_at ps m.0 ≡ other → one ≡ other
    both m None None e f = refl
    both m None (Some q) e f =
        let sound = are.sound m.0 q f in
        absurd (none_some (sym e ∙ counted (λ c. parent v c ≡ Some q) m (kids recs q) (subst (All (λ c. parent v c ≡ Some q)) (its_kids q) (valid.trees.agree q)) sound.1))
    both m (Some p) other e f =
        let once = ap (count_by (λ c. c.0 == m.0)) (sym (its_kids p)) ∙ valid.trees.once m p e in
        sym (sym f ∙ (counted (λ c. (c.0 < length recs) × (parent_at ps c.0 ≡ Some p)) m (kids recs p) (children_of p) once).1)

    pub same_parents : (m : NodeId) → parent v m ≡ parent_at ps m.0
    same_parents m = both m (parent v m) (parent_at ps m.0) refl refl

    pub not_deeper : (n : NodeId) → depth (bare ps) n ≤ MOST_TREE_DEPTH
    not_deeper n = subst (λ d. d ≤ MOST_TREE_DEPTH) (same_depth v (bare ps) (λ m. same_parents m ∙ sym (bare_parent ps m)) n) (valid.trees.ends n)

-- the records of valid nodes are valid by themselves
pub recs_valid : (recs : List NodeRec) (v : List Node) → AreNodes v → node_recs v ≡ recs → All (λ rec. IsNode (node_of rec None)) recs
recs_valid recs v valid has = λ k d less.
    let count = sym (length-map v node_rec) ∙ ap length has in
    let node : IsNode (get_or v k no_node) = valid.each k no_node (omega (arith, less, count)) in
    let is = sym (get_or-map node_rec v k no_node) ∙ ap (λ (rs : List NodeRec). get_or rs k (node_rec no_node)) has ∙ get_or_default recs k (node_rec no_node) d less in
    subst (λ r. IsNode (node_of r None)) is (record {
      shape = node.shape;
      handlers = node.handlers;
      form = record { few_handlers = node.form.few_handlers; no_handlers = node.form.no_handlers; no_children = node.form.no_children; no_parent = λ page. refl };
    })

pub recs_few : (recs : List NodeRec) (v : List Node) → AreNodes v → node_recs v ≡ recs → length recs ≤ MOST_NODES
recs_few recs v valid has = omega (arith, sym (length-map v node_rec) ∙ ap length has, valid.few)

-- the depths that were found are those of the nodes
pub ends_all : (ps : List (Option NodeId)) (depths : List ℕ) → HaveDepths ps (length ps) depths → (n : NodeId) → depth (bare ps) n ≤ MOST_TREE_DEPTH
ends_all ps depths have n = ⊎_elim
    (λ below. have.few n below)
    (λ past. omega (arith, depth_top (bare ps) n (bare_parent ps n ∙ get_or_past ps n.0 None past)))
    (cases_lt n.0 (length ps))

pub depths_are : (recs : List NodeRec) (ps : List (Option NodeId)) (depths : List ℕ) (nodes : List Node) → AreParents recs (length recs) ps → HaveDepths ps (length ps) depths → nodes ≡ made recs ps → AreDepths nodes depths
depths_are recs ps depths nodes are have same = subst (λ ns. AreDepths ns depths) (sym same) (record {
  count = omega (arith, have.count, are.count, count_made recs ps are);
  each = λ n less. have.each n (omega (arith, less, are.count, count_made recs ps are)) ∙ sym (depth_is recs ps are n);
})
