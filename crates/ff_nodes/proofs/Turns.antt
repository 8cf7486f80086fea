-- What one turn of a loop over the children of a node finds, and what it leaves.
use Rattle.std.proofs.Common.{◌≡◌, ℕ, suc, ◌+◌, ◌<◌, ◌≤◌, Bool, true, false, Some, None, List, [], ◌∷◌, ◌++◌, length, filter, get_or, drop, slice_get, sym, subst, ap, ◌∙◌, length-append}
use Rattle.std.specs.Str.{bytes_eq}
use Rattle.ff_value.specs.declared.ids.NodeId.{NodeId}
use Rattle.ff_machine.specs.Kinds.{kind_word}
use Rattle.ff_machine.specs.Shapes.{kind_of, name_of, is_unstarted}
use Rattle.ff_machine.specs.Nodes.{Node, Walk, node_at, children, depth, is_name, by_name, of_word, scripts, shown}
use Rattle.ff_machine.specs.Alone.{AreTrees}
use Rattle.ff_nodes.proofs.Below.{depth_child, shown_out}
use Rattle.ff_nodes.proofs.Searching.{each_past, get_first, get_after, find_here, find_below, find_in_next, find_after_next, some_here, some_below, some_next}
use Rattle.ff_nodes.proofs.Rest.{named_from, kind_from, scripts_from, shown_from}

module _ (nodes : List Node) (trees : AreTrees nodes) (n : NodeId) where
  abbrev named : List ℕ → NodeId → Bool
  named x m = is_name x (name_of (node_at nodes m).shape)

  abbrev of : List ℕ → NodeId → Bool
  of word m = bytes_eq (kind_word (kind_of (node_at nodes m).shape)) word

  abbrev unstarted : NodeId → Bool
  unstarted m = is_unstarted (node_at nodes m).shape

  -- The node itself.

  pub named_here : (x : List ℕ) → named x n ≡ true → by_name nodes n x ≡ Some n
  named_here x is = find_here nodes trees (named x) n is

  pub named_below : (x : List ℕ) → named x n ≡ false → by_name nodes n x ≡ named_from nodes x (children nodes n)
  named_below x is = find_below nodes trees (named x) n is

  pub kind_here : (word : List ℕ) → of word n ≡ true → of_word nodes n word ≡ n ∷ kind_from nodes word (children nodes n)
  kind_here word is = some_here nodes trees (of word) n is

  pub kind_below : (word : List ℕ) → of word n ≡ false → of_word nodes n word ≡ kind_from nodes word (children nodes n)
  kind_below word is = some_below nodes trees (of word) n is

  pub scripts_here : unstarted n ≡ true → scripts nodes n ≡ n ∷ scripts_from nodes (children nodes n)
  scripts_here is = some_here nodes trees unstarted n is

  pub scripts_below : unstarted n ≡ false → scripts nodes n ≡ scripts_from nodes (children nodes n)
  scripts_below is = some_below nodes trees unstarted n is

  pub shown_below : shown nodes n ≡ shown_from nodes (children nodes n)
  shown_below = shown_out nodes trees n

  -- Past the last child nothing is left.

  pub scripts_past : (i : ℕ) → length (children nodes n) ≤ i → scripts_from nodes (drop i (children nodes n)) ≡ []
  scripts_past i h = ap (filter unstarted) (each_past (Walk nodes) (children nodes n) i h)

  -- A child: the item at a place of the list that is lent.
  module _ (items : List NodeId) (lent : items ≡ children nodes n) (i : ℕ) (here : i < length items) where
    abbrev pub child : NodeId
    child = get_or items i (record { 0 = 0 })

    same : get_or (children nodes n) i (record { 0 = 0 }) ≡ child
    same = ap (λ (cs : List NodeId). get_or cs i (record { 0 = 0 })) (sym lent)

    there : i < length (children nodes n)
    there = subst (λ (cs : List NodeId). i < length cs) lent here

    pub deeper : depth nodes child ≡ suc (depth nodes n)
    deeper = subst (λ (c : NodeId). depth nodes c ≡ suc (depth nodes n)) same (depth_child nodes trees n i (record { 0 = 0 }) there)

    pub lives : child.0 < length nodes
    lives = subst (λ (c : NodeId). c.0 < length nodes) same (trees.below n i (record { 0 = 0 }) there)

    pub named_in_next : (x : List ℕ) (m : NodeId) → by_name nodes child x ≡ Some m → named_from nodes x (drop i (children nodes n)) ≡ Some m
    named_in_next x m e = find_in_next nodes trees (named x) (children nodes n) i (record { 0 = 0 }) m there (ap (λ (c : NodeId). by_name nodes c x) same ∙ e)

    pub named_after_next : (x : List ℕ) → by_name nodes child x ≡ None → named_from nodes x (drop i (children nodes n)) ≡ named_from nodes x (drop (i + 1) (children nodes n))
    named_after_next x e = find_after_next nodes trees (named x) (children nodes n) i (record { 0 = 0 }) there (ap (λ (c : NodeId). by_name nodes c x) same ∙ e)

    pub kind_next : (word : List ℕ) → kind_from nodes word (drop i (children nodes n)) ≡ of_word nodes child word ++ kind_from nodes word (drop (i + 1) (children nodes n))
    kind_next word = some_next nodes trees (of word) (children nodes n) i (record { 0 = 0 }) there ∙ ap (λ (c : NodeId). of_word nodes c word ++ kind_from nodes word (drop (i + 1) (children nodes n))) same

    -- those that are left to count after a child
    pub found_in_next : (word : List ℕ) (left : ℕ) (m : NodeId) → slice_get (of_word nodes child word) left ≡ Some m → slice_get (kind_from nodes word (drop i (children nodes n))) left ≡ Some m
    found_in_next word left m e = ap (λ (l : List NodeId). slice_get l left) (kind_next word) ∙ get_first (of_word nodes child word) (kind_from nodes word (drop (i + 1) (children nodes n))) left m e

    pub found_after_next : (word : List ℕ) (left rest : ℕ) → rest + length (of_word nodes child word) ≡ left → slice_get (kind_from nodes word (drop i (children nodes n))) left ≡ slice_get (kind_from nodes word (drop (i + 1) (children nodes n))) rest
    found_after_next word left rest e = ap (λ (l : List NodeId). slice_get l left) (kind_next word) ∙ get_after (of_word nodes child word) (kind_from nodes word (drop (i + 1) (children nodes n))) left rest e

    pub count_next : (word : List ℕ) → length (kind_from nodes word (drop i (children nodes n))) ≡ length (of_word nodes child word) + length (kind_from nodes word (drop (i + 1) (children nodes n)))
    count_next word = ap length (kind_next word) ∙ length-append (of_word nodes child word) (kind_from nodes word (drop (i + 1) (children nodes n)))
