-- A tree that is joined to another leaves trees.
use Rattle.std.proofs.Common.{◌≡◌, ◌≢◌, ℕ, zero, suc, ◌+◌, ◌<◌, ◌≤◌, ◌⊎◌, inl, inr, ◌==◌, nat_lt, not, ℤ, Bool, true, false, cond, Option, Some, None, is_some, is_none, List, [], ◌∷◌, ◌++◌, length, take, drop, All, arith, le_trans, refl, sym, subst, ap, ◌∙◌}
use Rattle.std.specs.List.{AllByRecursion, insert}
use Rattle.std.proofs.lemmas.Bool.Decides.{nat_tests}
use Rattle.std.proofs.lemmas.List.{take-append-drop, length-set, get_or-set_same, get_or-set_other}
use Rattle.std.proofs.lemmas.List.Elements.{recursion_from_All, All-from_get_or, All-append, All-cons, All-take, All-drop}
use Rattle.std.proofs.lemmas.List.Sums.{sum_by-cons, sum_by-append}
use Rattle.ff_value.specs.declared.fault.Fault.TheVariants as fault
use Rattle.ff_value.specs.declared.ids.NodeId.{NodeId}
use Rattle.ff_machine.specs.declared.limits.TheConstants.{MOST_TREE_DEPTH}
use Rattle.ff_machine.specs.Shapes.{page_of, may_have_children}
use Rattle.ff_machine.specs.Nodes.{Node, node_at, no_node, set_node, children, parent, at_parent, depth, depth_within, root, height, insert_fault, place_of, joined}
use Rattle.ff_machine.specs.Alone.{AreTrees, AreNodes, IsNode}
use Rattle.ff_machine.proofs.Parts.{times}
use Rattle.ff_machine.proofs.Depths.{depth_up, root_up, root_top, within_height}

-- What no fault says.

cond_none : {A : Type 0} (b : Bool) (f : A) (o : Option A) → cond b (Some f) o ≡ None → (b ≡ false) × (o ≡ None)
cond_none true f o e = cc
cond_none false f o e = (refl, e)

-- a child that may stand under a parent
pub record MayJoin (nodes : List Node) (p c : NodeId) : Type 0 where
  pub has_children : may_have_children (node_at nodes p).shape ≡ true
  pub no_page : is_some (page_of (node_at nodes c).shape) ≡ false
  pub no_parent : is_some (parent nodes c) ≡ false
  pub apart : ((root nodes p).0 == c.0) ≡ false
  pub shallow : suc (depth nodes p + height nodes c) ≤ MOST_TREE_DEPTH

no_not : (b : Bool) → not b ≡ false → b ≡ true
no_not true e = refl
no_not false e = cc

-- where there is no fault, the child may stand there
pub may_join : (nodes : List Node) (p c : NodeId) (at : ℤ) → insert_fault nodes p c at ≡ None → MayJoin nodes p c
unfolding insert_fault
may_join nodes p c at e =
    let first = cond_none (not (may_have_children (node_at nodes p).shape)) fault.Kind _ e in
    let second = cond_none (is_some (page_of (node_at nodes c).shape)) fault.Kind _ first.1 in
    let third = cond_none (is_some (parent nodes c)) fault.Range _ second.1 in
    let fourth = cond_none ((root nodes p).0 == c.0) fault.Range _ third.1 in
    let fifth = cond_none (is_none (place_of at (length (children nodes p)))) fault.Range _ fourth.1 in
    let last = (cond_none (nat_lt MOST_TREE_DEPTH (suc (depth nodes p + height nodes c))) fault.Limit None fifth.1).0 in
    record {
      has_children = no_not _ first.0;
      no_page = second.0;
      no_parent = third.0;
      apart = fourth.0;
      shallow = grind (arith, nat_tests, last);
    }

-- Numbers.

same_or_other : (n k : NodeId) → (n ≡ k) ⊎ (n.0 ≢ k.0)
same_or_other n k = by (n.0 == k.0) refl where
  by : (b : Bool) → (n.0 == k.0) ≡ b → (n ≡ k) ⊎ (n.0 ≢ k.0)
  by true e = let same : n.0 ≡ k.0 = grind (arith, nat_tests, e) in inl (ap (λ i. let m : NodeId = record { 0 = i } in m) same)
  by false e = inr (λ same. grind (arith, nat_tests, e, same))

none_of : (o : Option NodeId) → is_some o ≡ false → o ≡ None
none_of None e = refl
none_of (Some q) e = cc

-- a node more in a list is counted once more
times_insert : (n c : NodeId) (cs : List NodeId) (at : ℕ) → times n (insert cs at c) ≡ cond (c.0 == n.0) 1 0 + times n cs
times_insert n c cs at =
    let f : NodeId → ℕ = λ d. cond (d.0 == n.0) 1 0 in
    let whole = sum_by-append f (take at cs) (c ∷ drop at cs) in
    let one = sum_by-cons f c (drop at cs) in
    let parts = sum_by-append f (take at cs) (drop at cs) in
    let same : times n (take at cs ++ drop at cs) ≡ times n cs = ap (times n) (take-append-drop at cs) in
    omega (arith, whole, one, parts, same)

-- a node is not counted among the children of others
times_none : (nodes : List Node) (c q : NodeId) (cs : List NodeId) → AllByRecursion (λ k. parent nodes k ≡ Some q) cs → parent nodes c ≡ None → times c cs ≡ 0
times_none nodes c q [] each none = refl
times_none nodes c q (k ∷ cs) each none =
    let other : (k.0 == c.0) ≡ false = by (k.0 == c.0) refl in
    let step = sum_by-cons (λ (d : NodeId). cond (d.0 == c.0) 1 0) k cs in
    let zero_more : cond {A = ℕ} (k.0 == c.0) 1 0 ≡ 0 = ap (λ b. cond b 1 0) other in
    let rest = times_none nodes c q cs each.1 none in
    omega (arith, step, zero_more, rest)
  where
    by : (b : Bool) → (k.0 == c.0) ≡ b → (k.0 == c.0) ≡ false
    by false e = e
    by true e = absurd (differ (let i : k.0 ≡ c.0 = grind (arith, nat_tests, e) in i)) where
      differ : k.0 ≡ c.0 → ⊥
      differ i = let has : parent nodes c ≡ Some q = ap (λ j. parent nodes (record { 0 = j })) (sym i) ∙ each.0 in cc

module _ (nodes : List Node) (trees : AreTrees nodes) (p c : NodeId) (at : ℕ) (p_there : p.0 < length nodes) (c_there : c.0 < length nodes) (may : MayJoin nodes p c) where
  abbrev new : List Node
  new = joined nodes p c at

  top : parent nodes c ≡ None
  top = none_of (parent nodes c) may.no_parent

  -- the parent isn't the child
  two : p.0 ≢ c.0
  two same =
      let is : p ≡ c = ap (λ i. let m : NodeId = record { 0 = i } in m) same in
      let its : root nodes p ≡ c = ap (root nodes) is ∙ root_top nodes c top in
      let e : (root nodes p).0 ≡ c.0 = ap (λ m. m.0) its in
      let apart = may.apart in
      grind (arith, nat_tests, e, apart)

  abbrev under : List Node
  under = set_node nodes c (record (node_at nodes c) { parent = Some p })

  length_under : length under ≡ length nodes
  length_under = length-set nodes c.0 (record (node_at nodes c) { parent = Some p })

  length_new : length new ≡ length nodes
  unfolding joined
  length_new = length-set under p.0 (record (node_at nodes p) { children = insert (children nodes p) at c }) ∙ length_under

  at_parent_node : node_at new p ≡ record (node_at nodes p) { children = insert (children nodes p) at c }
  unfolding joined
  at_parent_node = get_or-set_same under p.0 (record (node_at nodes p) { children = insert (children nodes p) at c }) no_node (let e = length_under in omega (arith, e, p_there))

  at_child : node_at new c ≡ record (node_at nodes c) { parent = Some p }
  unfolding joined
  at_child = get_or-set_other under p.0 c.0 (record (node_at nodes p) { children = insert (children nodes p) at c }) no_node (λ e. two (sym e)) ∙ get_or-set_same nodes c.0 (record (node_at nodes c) { parent = Some p }) no_node c_there

  at_other : (n : NodeId) → n.0 ≢ p.0 → n.0 ≢ c.0 → node_at new n ≡ node_at nodes n
  unfolding joined
  at_other n no_p no_c = get_or-set_other under p.0 n.0 (record (node_at nodes p) { children = insert (children nodes p) at c }) no_node no_p ∙ get_or-set_other nodes c.0 n.0 (record (node_at nodes c) { parent = Some p }) no_node no_c

  parent_same : (n : NodeId) → n.0 ≢ c.0 → parent new n ≡ parent nodes n
  parent_same n no_c = by (same_or_other n p) where
    by : (n ≡ p) ⊎ (n.0 ≢ p.0) → parent new n ≡ parent nodes n
    by (inl e) = subst (λ m. parent new m ≡ parent nodes m) (sym e) (ap (λ (m : Node). m.parent) at_parent_node)
    by (inr no_p) = ap (λ (m : Node). m.parent) (at_other n no_p no_c)

  children_same : (n : NodeId) → n.0 ≢ p.0 → children new n ≡ children nodes n
  children_same n no_p = by (same_or_other n c) where
    by : (n ≡ c) ⊎ (n.0 ≢ c.0) → children new n ≡ children nodes n
    by (inl e) = subst (λ m. children new m ≡ children nodes m) (sym e) (ap (λ (m : Node). m.children) at_child)
    by (inr no_c) = ap (λ (m : Node). m.children) (at_other n no_p no_c)

  parent_is : parent new c ≡ Some p
  parent_is = ap (λ (m : Node). m.parent) at_child

  children_are : children new p ≡ insert (children nodes p) at c
  children_are = ap (λ (m : Node). m.children) at_parent_node

  -- what holds of the children before and of the child holds of the children after
  held : (P : NodeId → Type 0) → All P (children nodes p) → P c → All P (children new p)
  held P each one = subst (All P) (sym children_are) (All-append P (take at (children nodes p)) (c ∷ drop at (children nodes p)) (All-take P at (children nodes p) each) (All-cons P c (drop at (children nodes p)) one (All-drop P at (children nodes p) each)))

  -- a child of a node before isn't the one that is joined
  old_child : (n k : NodeId) → parent nodes k ≡ Some n → k.0 ≢ c.0
  old_child n k e same = let none : parent nodes k ≡ None = ap (λ i. parent nodes (record { 0 = i })) same ∙ top in cc

  below : (n : NodeId) → All (λ k. k.0 < length new) (children new n)
  below n = subst (λ most. All (λ k. k.0 < most) (children new n)) (sym length_new) (by (same_or_other n p)) where
    by : (n ≡ p) ⊎ (n.0 ≢ p.0) → All (λ k. k.0 < length nodes) (children new n)
    by (inl e) = subst (λ m. All (λ k. k.0 < length nodes) (children new m)) (sym e) (held (λ k. k.0 < length nodes) (trees.below p) c_there)
    by (inr no_p) = subst (All (λ k. k.0 < length nodes)) (sym (children_same n no_p)) (trees.below n)

  agree : (n : NodeId) → All (λ k. parent new k ≡ Some n) (children new n)
  agree n = by (same_or_other n p) where
    old : (m : NodeId) → All (λ k. parent new k ≡ Some m) (children nodes m)
    old m i k less = let e = trees.agree m i k less in parent_same _ (old_child m _ e) ∙ e

    by : (n ≡ p) ⊎ (n.0 ≢ p.0) → All (λ k. parent new k ≡ Some n) (children new n)
    by (inl e) = subst (λ m. All (λ k. parent new k ≡ Some m) (children new m)) (sym e) (held (λ k. parent new k ≡ Some p) (old p) parent_is)
    by (inr no_p) = subst (All (λ k. parent new k ≡ Some n)) (sym (children_same n no_p)) (old n)

  -- counts among the children of the parent
  once_under : (n : NodeId) → times n (children new p) ≡ cond (c.0 == n.0) 1 0 + times n (children nodes p)
  once_under n = ap (times n) children_are ∙ times_insert n c (children nodes p) at

  one_for : (b : Bool) → b ≡ true → cond {A = ℕ} b 1 0 ≡ 1
  one_for b e = ap (λ t. cond t 1 0) e

  none_for : (b : Bool) → b ≡ false → cond {A = ℕ} b 1 0 ≡ 0
  none_for b e = ap (λ t. cond t 1 0) e

  child_once : times c (children new p) ≡ 1
  child_once =
      let one = one_for (c.0 == c.0) (grind (arith, nat_tests)) in
      let none = times_none nodes c p (children nodes p) (recursion_from_All (λ k. parent nodes k ≡ Some p) (children nodes p) (trees.agree p)) top in
      let all = once_under c in
      omega (arith, one, none, all)

  other_once : (n q : NodeId) → n.0 ≢ c.0 → parent nodes n ≡ Some q → times n (children new q) ≡ 1
  other_once n q no_c e = by (same_or_other q p) where
    by : (q ≡ p) ⊎ (q.0 ≢ p.0) → times n (children new q) ≡ 1
    by (inl is) =
        let none = none_for (c.0 == n.0) (grind (arith, nat_tests, no_c)) in
        let before : times n (children nodes p) ≡ 1 = subst (λ m. times n (children nodes m) ≡ 1) is (trees.once n q e) in
        let all = once_under n in
        subst (λ m. times n (children new m) ≡ 1) (sym is) (omega (arith, none, before, all))
    by (inr no_p) = ap (times n) (children_same q no_p) ∙ trees.once n q e

  once : (n q : NodeId) → parent new n ≡ Some q → times n (children new q) ≡ 1
  once n q e = by (same_or_other n c) where
    by : (n ≡ c) ⊎ (n.0 ≢ c.0) → times n (children new q) ≡ 1
    by (inl is) =
        let its : p ≡ q = let has : parent new c ≡ Some q = subst (λ m. parent new m ≡ Some q) is e in let now = parent_is in cc in
        subst (λ m. times m (children new q) ≡ 1) (sym is) (subst (λ m. times c (children new m) ≡ 1) its child_once)
    by (inr no_c) = other_once n q no_c (sym (parent_same n no_c) ∙ e)

  -- how much deeper a node stands after: below the child by the parent's depth and one
  above : NodeId → ℕ
  above n = cond ((root nodes n).0 == c.0) (suc (depth nodes p)) 0

  above_parent : above p ≡ 0
  unfolding above
  above_parent = ap (λ b. cond b (suc (depth nodes p)) 0) may.apart

  above_child : above c ≡ suc (depth nodes p)
  unfolding above
  above_child = let e : ((root nodes c).0 == c.0) ≡ true = subst (λ m. (m.0 == c.0) ≡ true) (sym (root_top nodes c top)) (grind (arith, nat_tests)) in ap (λ b. cond b (suc (depth nodes p)) 0) e

  above_up : (n q : NodeId) → parent nodes n ≡ Some q → above n ≡ above q
  unfolding above
  above_up n q e = ap (λ (m : NodeId). cond (m.0 == c.0) (suc (depth nodes p)) 0) (root_up nodes trees n q e)

  deep : (f : ℕ) (n : NodeId) → depth_within f new n ≤ above n + depth nodes n
  deep zero n = omega arith
  deep (suc f) n = by (same_or_other n c) (deep f) where
    rest_of : (o : Option NodeId) → parent nodes n ≡ o → ((m : NodeId) → depth_within f new m ≤ above m + depth nodes m) → at_parent 0 (λ q. suc (depth_within f new q)) o ≤ above n + depth nodes n
    rest_of None e rest = omega arith
    rest_of (Some q) e rest = let more = rest q in let up = depth_up nodes trees n q e in let same = above_up n q e in omega (arith, more, up, same)

    at_c : ((m : NodeId) → depth_within f new m ≤ above m + depth nodes m) → suc (depth_within f new p) ≤ above c + depth nodes c
    at_c rest = let more = rest p in let none = above_parent in let all = above_child in omega (arith, more, none, all)

    by : (n ≡ c) ⊎ (n.0 ≢ c.0) → ((m : NodeId) → depth_within f new m ≤ above m + depth nodes m) → depth_within (suc f) new n ≤ above n + depth nodes n
    by (inl is) rest = subst (λ m. depth_within (suc f) new m ≤ above m + depth nodes m) (sym is) (subst (λ o. at_parent 0 (λ q. suc (depth_within f new q)) o ≤ above c + depth nodes c) (sym parent_is) (at_c rest))
    by (inr no_c) rest = subst (λ o. at_parent 0 (λ q. suc (depth_within f new q)) o ≤ above n + depth nodes n) (sym (parent_same n no_c)) (rest_of (parent nodes n) refl rest)

  shallow : (n : NodeId) → above n + depth nodes n ≤ MOST_TREE_DEPTH
  unfolding above
  shallow n = by ((root nodes n).0 == c.0) refl where
    by : (b : Bool) → ((root nodes n).0 == c.0) ≡ b → cond b (suc (depth nodes p)) 0 + depth nodes n ≤ MOST_TREE_DEPTH
    by true e =
        let is : root nodes n ≡ c = let i : (root nodes n).0 ≡ c.0 = grind (arith, nat_tests, e) in ap (λ i. let m : NodeId = record { 0 = i } in m) i in
        let high = subst (λ r. depth nodes n ≤ height nodes r) is (within_height nodes trees n) in
        let most = may.shallow in
        omega (arith, high, most)
    by false e = let ends = trees.ends n in omega (arith, ends)

  ends : (n : NodeId) → depth new n ≤ MOST_TREE_DEPTH
  unfolding depth
  ends n = let far = deep (suc MOST_TREE_DEPTH) n in let near = shallow n in le_trans far near

  -- joined trees are trees
  pub joined_trees : AreTrees new
  joined_trees = record { below = below; agree = agree; once = once; ends = ends }

  -- so are valid nodes
  pub joined_nodes : AreNodes nodes → AreNodes new
  joined_nodes are = record { each = each are; trees = joined_trees; few = let e = length_new in let few = are.few in omega (arith, e, few) } where
    each : AreNodes nodes → All IsNode new
    each are = All-from_get_or IsNode new no_node (λ i less. of i (let e = length_new in omega (arith, e, less)) (same_or_other (record { 0 = i }) p) (same_or_other (record { 0 = i }) c)) where
      before : (n : NodeId) → n.0 < length nodes → IsNode (node_at nodes n)
      before n less = are.each n.0 no_node less

      joined_parent : IsNode (node_at new p)
      joined_parent = subst IsNode (sym at_parent_node) (let old = before p p_there in record {
        shape = old.shape;
        handlers = old.handlers;
        form = record { few_handlers = old.form.few_handlers; no_handlers = old.form.no_handlers; no_children = λ no. absurd (let has = may.has_children in let both : true ≡ false = sym has ∙ no in cc); no_parent = old.form.no_parent };
      })

      joined_child : IsNode (node_at new c)
      joined_child = subst IsNode (sym at_child) (let old = before c c_there in record {
        shape = old.shape;
        handlers = old.handlers;
        form = record { few_handlers = old.form.few_handlers; no_handlers = old.form.no_handlers; no_children = old.form.no_children; no_parent = λ some. absurd (let no = may.no_page in let both : true ≡ false = sym some ∙ no in cc) };
      })

      of : (i : ℕ) → i < length nodes → ((record { 0 = i }) ≡ p) ⊎ (i ≢ p.0) → ((record { 0 = i }) ≡ c) ⊎ (i ≢ c.0) → IsNode (node_at new (record { 0 = i }))
      of i less (inl e) other = subst (λ n. IsNode (node_at new n)) (sym e) joined_parent
      of i less (inr no_p) (inl e) = subst (λ n. IsNode (node_at new n)) (sym e) joined_child
      of i less (inr no_p) (inr no_c) = subst IsNode (sym (at_other (record { 0 = i }) no_p no_c)) (before (record { 0 = i }) less)
