-- A walk of a valid tree comes to each node once at most.
use Rattle.std.proofs.Common.{◌≡◌, ℕ, zero, suc, ◌+◌, ◌<◌, ◌≤◌, ⊎_elim, Bool, true, false, cond, ◌==◌, Option, Some, None, List, [], ◌∷◌, ◌++◌, filter, flat_map, count_by, All, refl, sym, ap, subst, ◌∙◌, arith}
use Rattle.std.proofs.lemmas.Bool.{eqb-true, eq-eqb, true≢false, cases_lt}
use Rattle.std.proofs.lemmas.List.Elements.{All-head, All-tail}
use Rattle.std.proofs.lemmas.List.Sums.{sum_by-cons}
use Rattle.ff_value.specs.declared.ids.NodeId.{NodeId}
use Rattle.ff_machine.specs.declared.limits.TheConstants.{MOST_TREE_DEPTH}
use Rattle.ff_machine.specs.Nodes.{Node, node_at, children, parent, walk_within, Walk, at_parent, depth, scripts}
use Rattle.ff_machine.specs.Shapes.{is_unstarted}
use Rattle.ff_machine.specs.Alone.{AreTrees}
use Rattle.ff_machine.proofs.Depths.{depth_up}
use Rattle.ff_laws.proofs.Sums.{if_so}

-- how often a node stands in a list
abbrev pub times : NodeId → List NodeId → ℕ
times m [] = 0
times m (x ∷ xs) = if_so (x.0 == m.0) + times m xs

-- how often it stands in the lists of some nodes together
abbrev each : NodeId → (NodeId → List NodeId) → List NodeId → ℕ
each m f [] = 0
each m f (c ∷ cs) = times m (f c) + each m f cs

-- how often a node stands in two lists
pub times_append : (m : NodeId) (xs ys : List NodeId) → times m (xs ++ ys) ≡ times m xs + times m ys
times_append m [] ys = omega arith
times_append m (x ∷ xs) ys = let rest = times_append m xs ys in omega (arith, rest)

times_each : (m : NodeId) (f : NodeId → List NodeId) (cs : List NodeId) → times m (flat_map f cs) ≡ each m f cs
times_each m f [] = refl
times_each m f (c ∷ cs) = let rest = times_each m f cs in omega (arith, rest, times_append m (f c) (flat_map f cs))

-- the count of a test is how often
pub times_count : (m : NodeId) (xs : List NodeId) → count_by (λ c. c.0 == m.0) xs ≡ times m xs
times_count m [] = refl
times_count m (x ∷ xs) = sum_by-cons (λ (c : NodeId). if_so (c.0 == m.0)) x xs ∙ ap (λ n. if_so (x.0 == m.0) + n) (times_count m xs)

not_more : (b : Bool) (m x : NodeId) (xs : List NodeId) (n : ℕ) → times m xs ≤ n → times m (cond b (x ∷ xs) xs) ≤ if_so (x.0 == m.0) + n
not_more true m x xs n h = omega (arith, h)
not_more false m x xs n h = omega (arith, h)

-- a part of a list has a node no more often
pub times_filter : (m : NodeId) (p : NodeId → Bool) (xs : List NodeId) → times m (filter p xs) ≤ times m xs
times_filter m p [] = omega arith
times_filter m p (x ∷ xs) = not_more (p x) m x (filter p xs) (times m xs) (times_filter m p xs)

-- two nodes of the same number are the same
pub same_node : (a b : NodeId) → (a.0 == b.0) ≡ true → a ≡ b
same_node a b e = ap (λ (k : ℕ). let n : NodeId = record { 0 = k } in n) (eqb-true a.0 b.0 e)

module _ (all : List Node) (trees : AreTrees all) where
  -- Walks, by their last step.

  none_some : {q : NodeId} → None ≡ Some q → ⊥
  none_some f = cc

  some_inj : (p q : NodeId) → Some p ≡ Some q → p ≡ q
  some_inj p q e = cc

  -- a node of another parent is no child
  pub no_child : (n m : NodeId) (cs : List NodeId) → All (λ c. parent all c ≡ Some n) cs → (parent all m ≡ Some n → ⊥) → times m cs ≡ 0
  no_child n m [] h other = refl
  no_child n m (c ∷ cs) h other = by (c.0 == m.0) refl (no_child n m cs (All-tail (λ c. parent all c ≡ Some n) c cs h) other) where
    by : (b : Bool) → (c.0 == m.0) ≡ b → times m cs ≡ 0 → if_so b + times m cs ≡ 0
    by true e rest = absurd (other (sym (ap (parent all) (same_node c m e)) ∙ All-head (λ c. parent all c ≡ Some n) c cs h))
    by false e rest = omega (arith, rest)

  -- a node is its parent's child once, and no other's
  as_child : (n m p : NodeId) → parent all m ≡ Some p → times m (children all n) ≡ if_so (n.0 == p.0)
  as_child n m p e = by (n.0 == p.0) refl where
    by : (b : Bool) → (n.0 == p.0) ≡ b → times m (children all n) ≡ if_so b
    by true same = ap (λ (q : NodeId). times m (children all q)) (same_node n p same) ∙ sym (times_count m (children all p)) ∙ trees.once m p e
    by false other = no_child n m (children all n) (trees.agree n) (λ h. absurd (true≢false (sym (eq-eqb n.0 p.0 (ap (λ (q : NodeId). q.0) (some_inj n p (sym h ∙ e)))) ∙ other)))

  -- how often a node stands in a walk by what its parent does
  abbrev up : ℕ → NodeId → Option NodeId → ℕ
  up k n o = at_parent 0 (λ p. times p (walk_within k all n)) o

  none_each : (m : NodeId) (cs : List NodeId) → each m (walk_within zero all) cs ≡ 0
  none_each m [] = refl
  none_each m (c ∷ cs) = let rest = none_each m cs in omega (arith, rest)

  zero_up : (n : NodeId) (o : Option NodeId) → up zero n o ≡ 0
  zero_up n None = refl
  zero_up n (Some p) = refl

  -- the walks of some children, each by its last step
  split_each : (k : ℕ) (m : NodeId) (o : Option NodeId) (cs : List NodeId) → ((c : NodeId) → times m (walk_within (suc k) all c) ≡ if_so (c.0 == m.0) + up k c o)
      → each m (walk_within (suc k) all) cs ≡ times m cs + at_parent 0 (λ p. each p (walk_within k all) cs) o
  split_each k m None [] h = refl
  split_each k m (Some p) [] h = refl
  split_each k m None (c ∷ cs) h = let one = h c in let rest = split_each k m None cs h in omega (arith, one, rest)
  split_each k m (Some p) (c ∷ cs) h = let one = h c in let rest = split_each k m (Some p) cs h in omega (arith, one, rest)

  -- how often a node stands in a walk, by its last step
  pub last_step : (k : ℕ) (n m : NodeId) → times m (walk_within (suc k) all n) ≡ if_so (n.0 == m.0) + up k n (parent all m)
  last_step zero n m =
      let below = times_each m (walk_within zero all) (children all n) in
      omega (arith, below, none_each m (children all n), zero_up n (parent all m))
  last_step (suc k) n m = by (parent all m) refl (split_each k m (parent all m) (children all n) (λ c. last_step k c m)) where
    by : (o : Option NodeId) → parent all m ≡ o → each m (walk_within (suc k) all) (children all n) ≡ times m (children all n) + at_parent 0 (λ p. each p (walk_within k all) (children all n)) o
        → times m (walk_within (suc (suc k)) all n) ≡ if_so (n.0 == m.0) + up (suc k) n o
    by None e h =
        let below = times_each m (walk_within (suc k) all) (children all n) in
        let none : times m (children all n) ≡ 0 = no_child n m (children all n) (trees.agree n) (λ f. none_some (sym e ∙ f)) in
        omega (arith, below, h, none)
    by (Some p) e h =
        let below = times_each m (walk_within (suc k) all) (children all n) in
        let before = times_each p (walk_within k all) (children all n) in
        omega (arith, below, before, h, as_child n m p e)

  -- Once at most.

  deeper : (k : ℕ) (n m : NodeId) → 0 < times m (walk_within k all n) → depth all n ≤ depth all m
  deeper zero n m h = absurd (omega (arith, h))
  deeper (suc k) n m h = by (n.0 == m.0) (parent all m) refl refl (λ p. deeper k n p) (subst (λ (t : ℕ). 0 < t) (last_step k n m) h) where
    by : (b : Bool) (o : Option NodeId) → (n.0 == m.0) ≡ b → parent all m ≡ o → ((p : NodeId) → 0 < times p (walk_within k all n) → depth all n ≤ depth all p) → 0 < if_so b + up k n o
        → depth all n ≤ depth all m
    by true o e q ih h = let same : depth all n ≡ depth all m = ap (depth all) (same_node n m e) in omega (arith, same)
    by false None e q ih h = absurd (omega (arith, h))
    by false (Some p) e q ih h = let above = ih p (omega (arith, h)) in omega (arith, above, depth_up all trees m p q)

  -- a walk comes to a node once at most
  pub walked_once : (k : ℕ) (n m : NodeId) → times m (walk_within k all n) ≤ 1
  walked_once zero n m = omega arith
  walked_once (suc k) n m =
      subst (λ (t : ℕ). t ≤ 1) (sym (last_step k n m)) (by (n.0 == m.0) (parent all m) refl refl (λ p. walked_once k n p)) where
        above_none : (p : NodeId) → parent all m ≡ Some p → (n.0 == m.0) ≡ true → times p (walk_within k all n) ≡ 0
        above_none p q e =
            ⊎_elim (λ h. absurd (omega (arith, deeper k n p h, depth_up all trees m p q, ap (depth all) (same_node n m e)))) (λ h. omega (arith, h)) (cases_lt 0 (times p (walk_within k all n)))

        by : (b : Bool) (o : Option NodeId) → (n.0 == m.0) ≡ b → parent all m ≡ o → ((p : NodeId) → times p (walk_within k all n) ≤ 1) → if_so b + up k n o ≤ 1
        by true None e q ih = omega arith
        by true (Some p) e q ih = let none = above_none p q e in omega (arith, none)
        by false None e q ih = omega arith
        by false (Some p) e q ih = let one = ih p in omega (arith, one)

-- the scripts of a tree that weren't started, each once at most
pub scripts_once : (all : List Node) → AreTrees all → (n m : NodeId) → times m (scripts all n) ≤ 1
unfolding Walk
scripts_once all trees n m =
    let walk = walk_within (suc MOST_TREE_DEPTH) all n in
    omega (arith, times_filter m (λ k. is_unstarted (node_at all k).shape) walk, walked_once all trees (suc MOST_TREE_DEPTH) n m)
