-- Nodes that a laid document becomes, among all nodes: they are trees below its topmost nodes.
use Rattle.std.proofs.Common.{◌≡◌, ℕ, nat_lt, zero, suc, ◌+◌, ◌<◌, ◌≤◌, ◌⊎◌, inl, inr, ◌==◌, Bool, true, false, cond, Option, Some, List, [], ◌∷◌, ◌++◌, length, count_by, slice_index_or, All, arith, refl, sym, subst, ap, ◌∙◌}
use Rattle.std.specs.List.{AllByRecursion}
use Rattle.std.proofs.lemmas.Bool.Decides.{nat_tests}
use Rattle.std.proofs.lemmas.List.{length-append}
use Rattle.std.proofs.lemmas.List.Elements.{All-nil, All-cons, recursion_from_All}
use Rattle.std.proofs.lemmas.List.Sums.{sum_by-cons}
use Rattle.std.proofs.Math.ListN.{get_or-append}
use Rattle.std.proofs.lemmas.List.{get_or-append-add}
use Rattle.ff_value.specs.declared.ids.NodeId.{NodeId}
use Rattle.ff_value.specs.declared.value.Code.{Code}
use Rattle.ff_machine.specs.declared.records.Shape.{Shape}
use Rattle.ff_machine.specs.Nodes.{Node, node_at, no_node, children, parent, at_parent, depth_within}
use Rattle.ff_machine.proofs.Numbers.{node}
use Rattle.ff_machine.specs.Documents.{Laid, size_of, numbers, lay_all, lay_leaf, lay_over}

-- how often a node is in a list
abbrev pub times : NodeId → List NodeId → ℕ
times n cs = count_by (λ c. c.0 == n.0) cs

-- the nodes stand among all from a number on
abbrev pub Placed : List Node → ℕ → List Node → Type 0
Placed all first ns = (i : ℕ) → i < length ns → node_at all (node (first + i)) ≡ slice_index_or ns i no_node

-- the number is one of so many from the first on
abbrev pub IsIn : ℕ → ℕ → NodeId → Type 0
IsIn first size n = (first ≤ n.0) × (n.0 < first + size)

-- a child of a node that has it once
pub record IsChild (all : List Node) (n : NodeId) : Type 0 where
  pub of : NodeId
  pub parent_is : parent all n ≡ Some of
  pub once : times n (children all of) ≡ 1

-- a node whose parent is given, which is one of these once
pub record IsTop (all : List Node) (under : Option NodeId) (tops : List NodeId) (n : NodeId) : Type 0 where
  pub parent_is : parent all n ≡ under
  pub once : times n tops ≡ 1

-- a node under the given one, if there is one, stands at most so deep
abbrev pub IsBound : List Node → Option NodeId → ℕ → Type 0
IsBound all under b = (f : ℕ) → at_parent 0 (λ p. suc (depth_within f all p)) under ≤ b

-- so many nodes from the first on: their topmost ones are under the given node, the others are
-- children among them, and none stands more than h below a topmost one
pub record IsPart (all : List Node) (under : Option NodeId) (h first size : ℕ) (tops : List NodeId) : Type 0 where
  pub below : (n : NodeId) → IsIn first size n → All (λ c. c.0 < first + size) (children all n)
  pub agree : (n : NodeId) → IsIn first size n → All (λ c. parent all c ≡ Some n) (children all n)
  pub up : (n : NodeId) → IsIn first size n → IsTop all under tops n ⊎ IsChild all n
  pub deep : (b : ℕ) → IsBound all under b → (n : NodeId) → IsIn first size n → (f : ℕ) → depth_within f all n ≤ b + h
  pub tops_in : All (IsIn first size) tops
  pub tops_up : All (λ c. parent all c ≡ under) tops

-- what a laid document is as nodes, wherever they stand
pub record IsLaid (d : Laid) (h : ℕ) : Type 0 where
  pub sized : (first : ℕ) (under : Option NodeId) → length (d.nodes first under) ≡ d.size
  pub some : 1 ≤ d.size
  pub part : (all : List Node) (first : ℕ) (under : Option NodeId) → Placed all first (d.nodes first under) → IsPart all under h first d.size (node first ∷ [])

-- the same of documents beside one another
pub record AreLaid (ds : List Laid) (h : ℕ) : Type 0 where
  pub sized : (first : ℕ) (under : Option NodeId) → length (lay_all ds first under) ≡ size_of ds
  pub part : (all : List Node) (first : ℕ) (under : Option NodeId) → Placed all first (lay_all ds first under) → IsPart all under h first (size_of ds) (numbers ds first)

-- Numbers.

times_cons : (n c : NodeId) (cs : List NodeId) → times n (c ∷ cs) ≡ cond (c.0 == n.0) 1 0 + times n cs
times_cons n c cs = sum_by-cons (λ (d : NodeId). cond (d.0 == n.0) 1 0) c cs

times_here : (n : NodeId) (cs : List NodeId) → times n (n ∷ cs) ≡ 1 + times n cs
times_here n cs = let e : (n.0 == n.0) ≡ true = grind (arith, nat_tests) in times_cons n n cs ∙ ap (λ b. cond b 1 0 + times n cs) e

times_apart : (n c : NodeId) (cs : List NodeId) → (c.0 == n.0) ≡ false → times n (c ∷ cs) ≡ 0 + times n cs
times_apart n c cs e = times_cons n c cs ∙ ap (λ b. cond b 1 0 + times n cs) e

times_none : (n : NodeId) (cs : List NodeId) (first : ℕ) → AllByRecursion (λ c. first ≤ c.0) cs → n.0 < first → times n cs ≡ 0
times_none n [] first h less = refl
times_none n (c ∷ cs) first h less =
    let other : (c.0 == n.0) ≡ false = let k = h.0 in grind (arith, nat_tests, k, less) in
    let rest = times_none n cs first h.1 less in
    times_apart n c cs other ∙ omega (arith, rest)

same_node : (n : NodeId) (k : ℕ) → n.0 ≡ k → n ≡ node k
same_node n k e = ap (λ m. node m) e

-- A node without children.

only : (first : ℕ) (n : NodeId) → IsIn first 1 n → n ≡ node first
only first n h = same_node n first (let low = h.0 in let high = h.1 in omega (arith, low, high))

module _ (all : List Node) (first : ℕ) (under : Option NodeId) (s : Shape) (handlers : List Code) where
  abbrev leaf : Node
  leaf = record { shape = s; handlers = handlers; children = []; parent = under }

  module _ (at : node_at all (node first) ≡ leaf) where
    leaf_children : children all (node first) ≡ []
    leaf_children = ap (λ (n : Node). n.children) at

    leaf_parent : parent all (node first) ≡ under
    leaf_parent = ap (λ (n : Node). n.parent) at

    leaf_deep : (b : ℕ) → IsBound all under b → (f : ℕ) → depth_within f all (node first) ≤ b + 0
    leaf_deep b bound zero = omega arith
    leaf_deep b bound (suc f) = subst (λ o. at_parent 0 (λ p. suc (depth_within f all p)) o ≤ b + 0) (sym leaf_parent) (let h = bound f in omega (arith, h))

    leaf_part : IsPart all under 0 first 1 (node first ∷ [])
    leaf_part = record {
      below = λ n h. subst (λ cs. All (λ c. c.0 < first + 1) cs) (sym (ap (children all) (only first n h) ∙ leaf_children)) (All-nil (λ c. c.0 < first + 1));
      agree = λ n h. subst (λ cs. All (λ c. parent all c ≡ Some n) cs) (sym (ap (children all) (only first n h) ∙ leaf_children)) (All-nil (λ c. parent all c ≡ Some n));
      up = λ n h. inl (record {
        parent_is = ap (parent all) (only first n h) ∙ leaf_parent;
        once = subst (λ m. times m (node first ∷ []) ≡ 1) (sym (only first n h)) (times_here (node first) []);
      });
      deep = λ b bound n h f. subst (λ m. depth_within f all m ≤ b + 0) (sym (only first n h)) (leaf_deep b bound f);
      tops_in = All-cons (IsIn first 1) (node first) [] (omega arith, omega arith) (All-nil (IsIn first 1));
      tops_up = All-cons (λ c. parent all c ≡ under) (node first) [] leaf_parent (All-nil (λ c. parent all c ≡ under));
    }

-- a leaf is laid
pub leaf_laid : (s : Shape) (handlers : List Code) → IsLaid (lay_leaf s handlers) 0
leaf_laid s handlers = record {
  sized = λ first under. refl;
  some = omega arith;
  part = λ all first under placed. leaf_part all first under s handlers (subst (λ k. node_at all (node k) ≡ leaf all first under s handlers) (plus_zero first) (placed 0 (omega arith)));
}
  where
    plus_zero : (k : ℕ) → k + 0 ≡ k
    plus_zero k = omega arith

-- Higher bounds.

wider : (all : List Node) (under : Option NodeId) (h k first size : ℕ) (tops : List NodeId) → h ≤ k → IsPart all under h first size tops → IsPart all under k first size tops
wider all under h k first size tops le p = record {
  below = p.below;
  agree = p.agree;
  up = p.up;
  tops_in = p.tops_in;
  tops_up = p.tops_up;
  deep = λ b bound n here f. let d = p.deep b bound n here f in omega (arith, d, le);
}

-- what is laid within a height is laid within a greater one
pub laid_wider : (d : Laid) (h k : ℕ) → h ≤ k → IsLaid d h → IsLaid d k
laid_wider d h k le is = record { sized = is.sized; some = is.some; part = λ all first under placed. wider all under h k first d.size (node first ∷ []) le (is.part all first under placed) }

-- Documents beside one another.

placed_left : (all : List Node) (first : ℕ) (xs ys : List Node) → Placed all first (xs ++ ys) → Placed all first xs
placed_left all first xs ys placed i less =
    let total = length-append xs ys in
    placed i (omega (arith, less, total)) ∙ get_or-append xs ys no_node i less

placed_right : (all : List Node) (first : ℕ) (xs ys : List Node) → Placed all first (xs ++ ys) → Placed all (first + length xs) ys
placed_right all first xs ys placed i less =
    let total = length-append xs ys in
    let e : first + length xs + i ≡ first + (length xs + i) = omega arith in
    ap (λ k. node_at all (node k)) e ∙ placed (length xs + i) (omega (arith, less, total)) ∙ get_or-append-add xs ys i no_node

module _ (all : List Node) (under : Option NodeId) (h first a b : ℕ) (tops : List NodeId) (left : IsPart all under h first a (node first ∷ [])) (right : IsPart all under h (first + a) b tops) (some : 1 ≤ a) where
  abbrev Side : NodeId → Type 0
  Side n = IsIn first a n ⊎ IsIn (first + a) b n

  side : (n : NodeId) → IsIn first (a + b) n → Side n
  side n here = by (nat_lt n.0 (first + a)) refl where
    by : (t : Bool) → nat_lt n.0 (first + a) ≡ t → Side n
    by true e = inl (here.0, grind (arith, nat_tests, e))
    by false e = inr (grind (arith, nat_tests, e), let high = here.1 in omega (arith, high))

  in_right : (n : NodeId) → IsIn (first + a) b n → IsIn first (a + b) n
  in_right n here = (let low = here.0 in omega (arith, low), let high = here.1 in omega (arith, high))

  tops_far : AllByRecursion (λ c. first + a ≤ c.0) tops
  tops_far = recursion_from_All (λ c. first + a ≤ c.0) tops (λ k d less. (right.tops_in k d less).0)

  by_side : (P : NodeId → Type 0) → ((n : NodeId) → IsIn first a n → P n) → ((n : NodeId) → IsIn (first + a) b n → P n) → (n : NodeId) → IsIn first (a + b) n → P n
  by_side P l r n here = of (side n here) where
    of : Side n → P n
    of (inl x) = l n x
    of (inr x) = r n x

  up_left : (n : NodeId) → IsIn first a n → IsTop all under (node first ∷ []) n ⊎ IsChild all n → IsTop all under (node first ∷ tops) n ⊎ IsChild all n
  up_left n here (inr child) = inr child
  up_left n here (inl top) = inl (record {
    parent_is = top.parent_is;
    once =
        let none = times_none n tops (first + a) tops_far here.1 in
        let one = sym (times_cons n (node first) []) ∙ top.once in
        times_cons n (node first) tops ∙ omega (arith, none, one);
  })

  up_right : (n : NodeId) → IsIn (first + a) b n → IsTop all under tops n ⊎ IsChild all n → IsTop all under (node first ∷ tops) n ⊎ IsChild all n
  up_right n here (inr child) = inr child
  up_right n here (inl top) = inl (record {
    parent_is = top.parent_is;
    once =
        let other : ((node first).0 == n.0) ≡ false = let low = here.0 in grind (arith, nat_tests, low, some) in
        let one = top.once in
        times_apart n (node first) tops other ∙ omega (arith, one);
  })

  beside : IsPart all under h first (a + b) (node first ∷ tops)
  beside = record {
    below = by_side (λ n. All (λ c. c.0 < first + (a + b)) (children all n))
        (λ n here k d less. let low = left.below n here k d less in omega (arith, low))
        (λ n here k d less. let low = right.below n here k d less in omega (arith, low));
    agree = by_side (λ n. All (λ c. parent all c ≡ Some n) (children all n)) left.agree right.agree;
    up = by_side (λ n. IsTop all under (node first ∷ tops) n ⊎ IsChild all n) (λ n here. up_left n here (left.up n here)) (λ n here. up_right n here (right.up n here));
    deep = λ c bound n here. by_side (λ n. (f : ℕ) → depth_within f all n ≤ c + h) (left.deep c bound) (right.deep c bound) n here;
    tops_in = All-cons (IsIn first (a + b)) (node first) tops (omega arith, omega (arith, some)) (λ k d less. in_right _ (right.tops_in k d less));
    tops_up = All-cons (λ c. parent all c ≡ under) (node first) tops (left.tops_up 0 (node first) (omega arith)) right.tops_up;
  }

none_part : (all : List Node) (under : Option NodeId) (h first : ℕ) → IsPart all under h first 0 []
none_part all under h first = record {
  below = λ n here. absurd (empty n here);
  agree = λ n here. absurd (empty n here);
  up = λ n here. absurd (empty n here);
  deep = λ b bound n here. absurd (empty n here);
  tops_in = All-nil (IsIn first 0);
  tops_up = All-nil (λ c. parent all c ≡ under);
}
  where
    empty : (n : NodeId) → IsIn first 0 n → ⊥
    empty n here = let low = here.0 in let high = here.1 in omega (arith, low, high)

-- laid documents beside one another are laid
pub all_laid : (h : ℕ) (ds : List Laid) → AllByRecursion (λ d. IsLaid d h) ds → AreLaid ds h
all_laid h [] each = record { sized = λ first under. refl; part = λ all first under placed. none_part all under h first }
all_laid h (d ∷ ds) each =
    let here = each.0 in
    let rest = all_laid h ds each.1 in
    record {
      sized = λ first under.
          let one = here.sized first under in
          let more = rest.sized (first + d.size) under in
          length-append (d.nodes first under) (lay_all ds (first + d.size) under) ∙ omega (arith, one, more);
      part = λ all first under placed.
          let xs = d.nodes first under in
          let ys = lay_all ds (first + d.size) under in
          beside all under h first d.size (size_of ds) (numbers ds (first + d.size))
          (here.part all first under (placed_left all first xs ys placed))
          (rest.part all (first + d.size) under (subst (λ k. Placed all (first + k) ys) (here.sized first under) (placed_right all first xs ys placed)))
          here.some;
    }

-- A node over laid documents.

module _ (all : List Node) (first : ℕ) (under : Option NodeId) (s : Shape) (h : ℕ) (ds : List Laid) where
  abbrev over : Node
  over = record { shape = s; handlers = []; children = numbers ds (suc first); parent = under }

  module _ (at : node_at all (node first) ≡ over) (parts : IsPart all (Some (node first)) h (suc first) (size_of ds) (numbers ds (suc first))) where
    over_children : children all (node first) ≡ numbers ds (suc first)
    over_children = ap (λ (n : Node). n.children) at

    over_parent : parent all (node first) ≡ under
    over_parent = ap (λ (n : Node). n.parent) at

    over_deep : (b : ℕ) → IsBound all under b → (f : ℕ) → depth_within f all (node first) ≤ b
    over_deep b bound zero = omega arith
    over_deep b bound (suc f) = subst (λ o. at_parent 0 (λ p. suc (depth_within f all p)) o ≤ b) (sym over_parent) (bound f)

    inside : (n : NodeId) → IsIn first (suc (size_of ds)) n → (n ≡ node first) ⊎ IsIn (suc first) (size_of ds) n
    inside n here = by (n.0 == first) refl where
      by : (t : Bool) → (n.0 == first) ≡ t → (n ≡ node first) ⊎ IsIn (suc first) (size_of ds) n
      by true e = inl (same_node n first (grind (arith, nat_tests, e)))
      by false e = let low = here.0 in let high = here.1 in inr (grind (arith, nat_tests, e, low), omega (arith, high))

    by_place : (P : NodeId → Type 0) → P (node first) → ((n : NodeId) → IsIn (suc first) (size_of ds) n → P n) → (n : NodeId) → IsIn first (suc (size_of ds)) n → P n
    by_place P root rest n here = of (inside n here) where
      of : (n ≡ node first) ⊎ IsIn (suc first) (size_of ds) n → P n
      of (inl e) = subst P (sym e) root
      of (inr x) = rest n x

    up_inside : (n : NodeId) → IsTop all (Some (node first)) (numbers ds (suc first)) n ⊎ IsChild all n → IsTop all under (node first ∷ []) n ⊎ IsChild all n
    up_inside n (inr child) = inr child
    up_inside n (inl top) = inr (record { of = node first; parent_is = top.parent_is; once = ap (times n) over_children ∙ top.once })

    over_part : IsPart all under (suc h) first (suc (size_of ds)) (node first ∷ [])
    over_part = record {
      below = by_place (λ n. All (λ c. c.0 < first + suc (size_of ds)) (children all n))
          (subst (λ cs. All (λ c. c.0 < first + suc (size_of ds)) cs) (sym over_children) (λ k d less. let high = (parts.tops_in k d less).1 in omega (arith, high)))
          (λ n here k d less. let low = parts.below n here k d less in omega (arith, low));
      agree = by_place (λ n. All (λ c. parent all c ≡ Some n) (children all n))
          (subst (λ cs. All (λ c. parent all c ≡ Some (node first)) cs) (sym over_children) parts.tops_up)
          parts.agree;
      up = by_place (λ n. IsTop all under (node first ∷ []) n ⊎ IsChild all n)
          (inl (record { parent_is = over_parent; once = times_here (node first) [] }))
          (λ n here. up_inside n (parts.up n here));
      deep = λ b bound. by_place (λ n. (f : ℕ) → depth_within f all n ≤ b + suc h)
          (λ f. let d = over_deep b bound f in omega (arith, d))
          (λ n here f. let d = parts.deep (suc b) (λ g. let e = over_deep b bound g in omega (arith, e)) n here f in omega (arith, d));
      tops_in = All-cons (IsIn first (suc (size_of ds))) (node first) [] (omega arith, omega arith) (All-nil (IsIn first (suc (size_of ds))));
      tops_up = All-cons (λ c. parent all c ≡ under) (node first) [] over_parent (All-nil (λ c. parent all c ≡ under));
    }

-- a node over laid documents is laid, one higher
pub over_laid : (s : Shape) (h : ℕ) (ds : List Laid) → AllByRecursion (λ d. IsLaid d h) ds → IsLaid (lay_over s ds) (suc h)
over_laid s h ds each =
    let rest = all_laid h ds each in
    record {
      sized = λ first under. let more = rest.sized (suc first) (Some (node first)) in length_cons (lay_all ds (suc first) (Some (node first))) more;
      some = omega arith;
      part = λ all first under placed.
          let root = over all first under s h ds in
          let ys = lay_all ds (suc first) (Some (node first)) in
          let at : node_at all (node first) ≡ root = ap (λ k. node_at all (node k)) (sym (plus_zero first)) ∙ placed 0 (positive (length ys)) in
          over_part all first under s h ds at
          (rest.part all (suc first) (Some (node first)) (subst (λ k. Placed all k ys) (plus_one first) (placed_right all first (root ∷ []) ys placed)));
    }
  where
    plus_zero : (k : ℕ) → k + 0 ≡ k
    plus_zero k = omega arith

    plus_one : (k : ℕ) → k + 1 ≡ suc k
    plus_one k = omega arith

    positive : (k : ℕ) → 0 < suc k
    positive k = omega arith

    length_cons : (ns : List Node) → length ns ≡ size_of ds → suc (length ns) ≡ suc (size_of ds)
    length_cons ns e = ap (λ k. suc k) e
