-- Where a bit isn't set in the marks of a node, no node at or below it has that name or kind.
use Rattle.std.proofs.Common.{◌≡◌, ℕ, zero, suc, ◌<◌, Bool, true, false, cond, not, IsTrue, Option, Some, None, List, [], ◌∷◌, ◌++◌, length, flat_map, find, filter, get_or, arith, refl, sym, subst, ap, ◌∙◌}
use Rattle.std.specs.Int.{bit_at}
use Rattle.std.specs.List.{AllByRecursion}
use Rattle.std.specs.Str.{bytes_eq}
use Rattle.std.proofs.Math.ListN.{get_or-map}
use Rattle.std.proofs.lemmas.Bool.{false≢true}
use Rattle.std.proofs.lemmas.List.{length-map}
use Rattle.std.proofs.lemmas.List.Elements.{recursion_from_All}
use Rattle.std.proofs.lemmas.Slice.Eq.{bytes_eq-Decides}
use Rattle.std.proofs.lemmas.Nat.Bits.{bit_at-lt}
use Rattle.ff_name.specs.Spelling.{IsName}
use Rattle.ff_value.specs.declared.ids.NodeId.{NodeId}
use Rattle.ff_machine.specs.Alone.{IsShape}
use Rattle.ff_machine.specs.declared.kinds.Kind.{Kind}
use Rattle.ff_machine.specs.declared.kinds.Kind.TheVariants as kind
use Rattle.ff_machine.specs.declared.records.Shape.{Shape}
use Rattle.ff_machine.specs.declared.records.Shape.TheVariants as shape
use Rattle.ff_machine.specs.declared.limits.TheConstants.{MOST_TREE_DEPTH}
use Rattle.ff_machine.specs.Kinds.{kind_word}
use Rattle.ff_machine.specs.Shapes.{kind_of, name_of, is_unstarted}
use Rattle.ff_machine.specs.Nodes.{Node, Walk, walk_within, node_at, no_node, children, is_name, by_name, of_word, scripts}
use Rattle.ff_nodes.specs.declared.cell.NodeCell.{NodeCell}
use Rattle.ff_nodes.specs.declared.marks.Marks.{Marks}
use Rattle.ff_nodes.specs.Marked.{name_bit, kind_bit, IsOwn, AreWithin}
use Rattle.ff_nodes.specs.Cells.{nodes_of, cell_at, no_cell, AreCells}
use Rattle.ff_nodes.proofs.Marking.{within_itself, within_through}
use Rattle.ff_nodes.proofs.KindWords.{same_kind}

-- the node of a number is that of its cell
pub node_of_cell : (cells : List NodeCell) (n : NodeId) → node_at (nodes_of cells) n ≡ (cell_at cells n).node
node_of_cell cells n = get_or-map (λ (c : NodeCell). c.node) cells n.0 no_cell

-- there are as many nodes as cells
pub count_cells : (cells : List NodeCell) → length (nodes_of cells) ≡ length cells
count_cells cells = length-map cells (λ (c : NodeCell). c.node)

-- Lists.

both : {X : Type 0} (P : X → Type 0) (xs ys : List X) → AllByRecursion P xs → AllByRecursion P ys → AllByRecursion P (xs ++ ys)
both P [] ys h k = k
both P (x ∷ xs) ys h k = (h.0, both P xs ys h.1 k)

each : {X Y : Type 0} (P : Y → Type 0) (f : X → List Y) (xs : List X) → AllByRecursion (λ x. AllByRecursion P (f x)) xs → AllByRecursion P (flat_map f xs)
each P f [] h = tt
each P f (x ∷ xs) h = both P (f x) (flat_map f xs) h.0 (each P f xs h.1)

weaker : {X : Type 0} (P Q : X → Type 0) → ((x : X) → P x → Q x) → (xs : List X) → AllByRecursion P xs → AllByRecursion Q xs
weaker P Q f [] h = tt
weaker P Q f (x ∷ xs) h = (f x h.0, weaker P Q f xs h.1)

none_found : {X : Type 0} (p : X → Bool) (xs : List X) → AllByRecursion (λ x. p x ≡ false) xs → find p xs ≡ None
none_found p [] h = refl
none_found p (x ∷ xs) h = ap (λ b. cond b (Some x) (find p xs)) h.0 ∙ none_found p xs h.1

none_kept : {X : Type 0} (p : X → Bool) (xs : List X) → AllByRecursion (λ x. p x ≡ false) xs → filter p xs ≡ []
none_kept p [] h = refl
none_kept p (x ∷ xs) h = ap (λ b. cond b (x ∷ filter p xs) (filter p xs)) h.0 ∙ none_kept p xs h.1

-- a test isn't both
pub not_both : (b : Bool) → IsTrue b → IsTrue (not b) → ⊥
not_both true h k = absurd (false≢true k)
not_both false h k = absurd (false≢true h)

unless : (b : Bool) → (b ≡ true → ⊥) → b ≡ false
unless true h = absurd (h refl)
unless false h = refl

-- the name of a node is a name
own_name : (s : Shape) (y : List ℕ) → IsShape s → name_of s ≡ Some y → IsName y
own_name (shape.Page page) y is e = cc
own_name (shape.Text x text) y is e = let same : x ≡ y = cc in subst IsName same is.0
own_name (shape.Link x url text) y is e = let same : x ≡ y = cc in subst IsName same is.0
own_name (shape.TextBox x text) y is e = let same : x ≡ y = cc in subst IsName same is.0
own_name (shape.Button x text) y is e = let same : x ≡ y = cc in subst IsName same is.0
own_name (shape.Script x started body) y is e = let same : x ≡ y = cc in subst IsName same is.0
own_name (shape.Src x started url) y is e = let same : x ≡ y = cc in subst IsName same is.0
own_name (shape.Div x) y is e = let same : x ≡ y = cc in subst IsName same is

spells_name : (x : List ℕ) (o : Option (List ℕ)) → ((y : List ℕ) → o ≡ Some y → IsName y) → is_name x o ≡ true → IsName x
spells_name x None each is = cc
spells_name x (Some y) each is =
    let same : y ≡ x = grind (arith, bytes_eq-Decides y x, is) in
    subst IsName same (each y refl)

module _ (cells : List NodeCell) (are : AreCells cells) where
  abbrev nodes : List Node
  nodes = nodes_of cells

  -- a node that was made, and whose marks are within these
  record IsUnder (marks : Marks) (m : NodeId) : Type 0 where
    lives : m.0 < length nodes
    within : AreWithin (cell_at cells m).marks marks

  walk_marked : (k : ℕ) (n : NodeId) → n.0 < length nodes → AllByRecursion (IsUnder (cell_at cells n).marks) (walk_within k nodes n)
  walk_marked zero n lives = tt
  walk_marked (suc k) n lives = (
    record { lives = lives; within = within_itself (cell_at cells n).marks },
    each (IsUnder (cell_at cells n).marks) (walk_within k nodes) (children nodes n) (recursion_from_All (λ c. AllByRecursion (IsUnder (cell_at cells n).marks) (walk_within k nodes c)) (children nodes n) (λ i d here.
        let c = get_or (children nodes n) i d in
        let inside = are.marks.within c n (are.nodes.trees.agree n i d here) in
        weaker (IsUnder (cell_at cells c).marks) (IsUnder (cell_at cells n).marks) (λ m under. record { lives = under.lives; within = within_through (cell_at cells m).marks (cell_at cells c).marks (cell_at cells n).marks under.within inside }) (walk_within k nodes c) (walk_marked k c (are.nodes.trees.below n i d here)))),
  )

  walked : (n : NodeId) → n.0 < length nodes → AllByRecursion (IsUnder (cell_at cells n).marks) (Walk nodes n)
  unfolding Walk
  walked n lives = walk_marked (suc MOST_TREE_DEPTH) n lives

  -- the marks of a node hold its own bits
  pub own : (m : NodeId) → m.0 < length nodes → IsOwn (node_at nodes m) (cell_at cells m).marks
  own m lives = subst (λ (node : Node). IsOwn node (cell_at cells m).marks) (sym (node_of_cell cells m)) (are.marks.own m (let e = count_cells cells in omega (arith, e, lives)))

  named : (x : List ℕ) (m : NodeId) (o : Option (List ℕ)) → m.0 < length nodes → name_of (node_at nodes m).shape ≡ o → is_name x o ≡ true → bit_at (cell_at cells m).marks.names (name_bit x) ≡ 1
  named x m None lives e is = cc
  named x m (Some y) lives e is =
      let same : y ≡ x = grind (arith, bytes_eq-Decides y x, is) in
      (own m lives).name x (e ∙ ap Some same)

  -- no node has that name
  pub no_name : (n : NodeId) (x : List ℕ) → n.0 < length nodes → (bit_at (cell_at cells n).marks.names (name_bit x) ≡ 1 → ⊥) → by_name nodes n x ≡ None
  no_name n x lives unset =
      none_found (λ m. is_name x (name_of (node_at nodes m).shape)) (Walk nodes n) (weaker (IsUnder (cell_at cells n).marks) (λ m. is_name x (name_of (node_at nodes m).shape) ≡ false) (λ m under. unless (is_name x (name_of (node_at nodes m).shape)) (λ is.
      let set = named x m (name_of (node_at nodes m).shape) under.lives refl is in
      let less = under.within.names (name_bit x) in
      unset (omega (arith, set, less, bit_at-lt (cell_at cells n).marks.names (name_bit x))))) (Walk nodes n) (walked n lives))

  -- what spells no name is found nowhere
  pub nameless : (n : NodeId) (x : List ℕ) → n.0 < length nodes → ¬ IsName x → by_name nodes n x ≡ None
  nameless n x lives none =
      none_found (λ m. is_name x (name_of (node_at nodes m).shape)) (Walk nodes n) (weaker (IsUnder (cell_at cells n).marks) (λ m. is_name x (name_of (node_at nodes m).shape) ≡ false) (λ m under. unless (is_name x (name_of (node_at nodes m).shape)) (λ is.
      none (spells_name x (name_of (node_at nodes m).shape) (λ y. own_name (node_at nodes m).shape y (are.nodes.each m.0 no_node under.lives).shape) is))) (Walk nodes n) (walked n lives))

  -- no node is of that kind
  pub no_kind : (n : NodeId) (k : Kind) → n.0 < length nodes → (bit_at (cell_at cells n).marks.kinds (kind_bit k) ≡ 1 → ⊥) → of_word nodes n (kind_word k) ≡ []
  no_kind n k lives unset =
      none_kept (λ m. bytes_eq (kind_word (kind_of (node_at nodes m).shape)) (kind_word k)) (Walk nodes n) (weaker (IsUnder (cell_at cells n).marks) (λ m. bytes_eq (kind_word (kind_of (node_at nodes m).shape)) (kind_word k) ≡ false) (λ m under. unless (bytes_eq (kind_word (kind_of (node_at nodes m).shape)) (kind_word k)) (λ is.
      let words : kind_word (kind_of (node_at nodes m).shape) ≡ kind_word k = grind (arith, bytes_eq-Decides (kind_word (kind_of (node_at nodes m).shape)) (kind_word k), is) in
      let same = same_kind (kind_of (node_at nodes m).shape) k words in
      let set : bit_at (cell_at cells m).marks.kinds (kind_bit k) ≡ 1 = subst (λ (j : Kind). bit_at (cell_at cells m).marks.kinds (kind_bit j) ≡ 1) same (own m under.lives).kind in
      let less = under.within.kinds (kind_bit k) in
      unset (omega (arith, set, less, bit_at-lt (cell_at cells n).marks.kinds (kind_bit k))))) (Walk nodes n) (walked n lives))

-- Scripts.

each_false : {X : Type 0} (p : X → Bool) (xs : List X) → filter p xs ≡ [] → AllByRecursion (λ x. p x ≡ false) xs
each_false p [] h = tt
each_false p (x ∷ xs) h = by (p x) refl (each_false p xs) where
  by : (b : Bool) → p x ≡ b → (filter p xs ≡ [] → AllByRecursion (λ y. p y ≡ false) xs) → AllByRecursion (λ y. p y ≡ false) (x ∷ xs)
  by true e rest = absurd (let full : x ∷ filter p xs ≡ [] = ap (λ b. cond b (x ∷ filter p xs) (filter p xs)) (sym e) ∙ h in cc)
  by false e rest = (e, rest (ap (λ b. cond b (x ∷ filter p xs) (filter p xs)) (sym e) ∙ h))

neither : (s : Shape) → bytes_eq (kind_word (kind_of s)) (kind_word kind.Script) ≡ false → bytes_eq (kind_word (kind_of s)) (kind_word kind.Src) ≡ false → is_unstarted s ≡ false
neither (shape.Script x started body) a b = cc
neither (shape.Src x started url) a b = cc
neither other a b = refl

all_neither : (all : List Node) (xs : List NodeId) → AllByRecursion (λ m. bytes_eq (kind_word (kind_of (node_at all m).shape)) (kind_word kind.Script) ≡ false) xs
    → AllByRecursion (λ m. bytes_eq (kind_word (kind_of (node_at all m).shape)) (kind_word kind.Src) ≡ false) xs → AllByRecursion (λ m. is_unstarted (node_at all m).shape ≡ false) xs
all_neither all [] a b = tt
all_neither all (m ∷ xs) a b = (neither (node_at all m).shape a.0 b.0, all_neither all xs a.1 b.1)

-- where there is neither a script nor the address of one, there is none that wasn't started
pub no_scripts : (nodes : List Node) (n : NodeId) → of_word nodes n (kind_word kind.Script) ≡ [] → of_word nodes n (kind_word kind.Src) ≡ [] → scripts nodes n ≡ []
no_scripts nodes n a b =
    none_kept (λ m. is_unstarted (node_at nodes m).shape) (Walk nodes n) (all_neither nodes (Walk nodes n)
    (each_false (λ m. bytes_eq (kind_word (kind_of (node_at nodes m).shape)) (kind_word kind.Script)) (Walk nodes n) a)
    (each_false (λ m. bytes_eq (kind_word (kind_of (node_at nodes m).shape)) (kind_word kind.Src)) (Walk nodes n) b))
