-- Searches of a walk: the node itself, and then the walks of its children, one after another.
use Rattle.std.proofs.Common.{◌≡◌, ℕ, zero, suc, ◌+◌, ◌≤◌, ◌<◌, Bool, true, false, cond, Some, None, List, [], ◌∷◌, ◌++◌, length, flat_map, find, filter, slice_get, get_or, drop, drop-cons, arith, refl, ap, ◌∙◌}
use Rattle.std.proofs.lemmas.List.Elements.{filter-append}
use Rattle.std.proofs.lemmas.List.Folds.{find-append}
use Rattle.std.specs.Option.{option_or}
use Rattle.ff_value.specs.declared.ids.NodeId.{NodeId}
use Rattle.ff_machine.specs.Nodes.{Node, Walk, children}
use Rattle.ff_machine.specs.Alone.{AreTrees}
use Rattle.ff_nodes.proofs.Below.{walk_out}

-- the lists of the elements from a place on
pub each_next : {X Y : Type 0} (f : X → List Y) (xs : List X) (i j : ℕ) (d : X) → j ≡ i + 1 → i < length xs → flat_map f (drop i xs) ≡ f (get_or xs i d) ++ flat_map f (drop j xs)
each_next f xs i j d e here = ap (flat_map f) (drop-cons xs i d here) ∙ ap (λ k. f (get_or xs i d) ++ flat_map f (drop k xs)) (let is : suc i ≡ j = omega (arith, e) in is)

-- past the last there is nothing
pub each_past : {X Y : Type 0} (f : X → List Y) (xs : List X) (i : ℕ) → length xs ≤ i → flat_map f (drop i xs) ≡ []
each_past f [] zero h = refl
each_past f [] (suc i) h = refl
each_past f (x ∷ xs) zero h = absurd (omega (arith, h))
each_past f (x ∷ xs) (suc i) h = each_past f xs i (omega (arith, h))

-- an element at a place of the first of two lists
pub get_first : {X : Type 0} (xs ys : List X) (k : ℕ) (x : X) → slice_get xs k ≡ Some x → slice_get (xs ++ ys) k ≡ Some x
get_first [] ys k x h = cc
get_first (y ∷ xs) ys zero x h = h
get_first (y ∷ xs) ys (suc k) x h = get_first xs ys k x h

-- and of the second
pub get_after : {X : Type 0} (xs ys : List X) (k left : ℕ) → left + length xs ≡ k → slice_get (xs ++ ys) k ≡ slice_get ys left
get_after [] ys k left h = ap (slice_get ys) (let is : k ≡ left = omega (arith, h) in is)
get_after (x ∷ xs) ys zero left h = absurd (omega (arith, h))
get_after (x ∷ xs) ys (suc k) left h = get_after xs ys k left (omega (arith, h))

module _ (nodes : List Node) (trees : AreTrees nodes) (p : NodeId → Bool) where
  -- the walks of some nodes
  abbrev pub walks : List NodeId → List NodeId
  walks cs = flat_map (Walk nodes) cs

  -- The first one.

  -- it is the node itself
  pub find_here : (n : NodeId) → p n ≡ true → find p (Walk nodes n) ≡ Some n
  find_here n is = ap (find p) (walk_out nodes trees n) ∙ ap (λ b. cond b (Some n) (find p (walks (children nodes n)))) is

  -- or it is below it
  pub find_below : (n : NodeId) → p n ≡ false → find p (Walk nodes n) ≡ find p (walks (children nodes n))
  find_below n is = ap (find p) (walk_out nodes trees n) ∙ ap (λ b. cond b (Some n) (find p (walks (children nodes n)))) is

  -- it is in the walk of the next of some nodes
  pub find_in_next : (cs : List NodeId) (i : ℕ) (d m : NodeId) → i < length cs → find p (Walk nodes (get_or cs i d)) ≡ Some m → find p (walks (drop i cs)) ≡ Some m
  find_in_next cs i d m here found =
      ap (find p) (each_next (Walk nodes) cs i (i + 1) d refl here) ∙ find-append p (Walk nodes (get_or cs i d)) (walks (drop (i + 1) cs))
      ∙ ap (λ o. option_or o (find p (walks (drop (i + 1) cs)))) found

  -- or after it
  pub find_after_next : (cs : List NodeId) (i : ℕ) (d : NodeId) → i < length cs → find p (Walk nodes (get_or cs i d)) ≡ None → find p (walks (drop i cs)) ≡ find p (walks (drop (i + 1) cs))
  find_after_next cs i d here none =
      ap (find p) (each_next (Walk nodes) cs i (i + 1) d refl here) ∙ find-append p (Walk nodes (get_or cs i d)) (walks (drop (i + 1) cs))
      ∙ ap (λ o. option_or o (find p (walks (drop (i + 1) cs)))) none

  -- All of them.

  -- the node itself is one
  pub some_here : (n : NodeId) → p n ≡ true → filter p (Walk nodes n) ≡ n ∷ filter p (walks (children nodes n))
  some_here n is = ap (filter p) (walk_out nodes trees n) ∙ ap (λ b. cond b (n ∷ filter p (walks (children nodes n))) (filter p (walks (children nodes n)))) is

  -- or they are below it
  pub some_below : (n : NodeId) → p n ≡ false → filter p (Walk nodes n) ≡ filter p (walks (children nodes n))
  some_below n is = ap (filter p) (walk_out nodes trees n) ∙ ap (λ b. cond b (n ∷ filter p (walks (children nodes n))) (filter p (walks (children nodes n)))) is

  -- those of the next of some nodes, and those after it
  pub some_next : (cs : List NodeId) (i : ℕ) (d : NodeId) → i < length cs → filter p (walks (drop i cs)) ≡ filter p (Walk nodes (get_or cs i d)) ++ filter p (walks (drop (i + 1) cs))
  some_next cs i d here = ap (filter p) (each_next (Walk nodes) cs i (i + 1) d refl here) ∙ filter-append p (Walk nodes (get_or cs i d)) (walks (drop (i + 1) cs))
