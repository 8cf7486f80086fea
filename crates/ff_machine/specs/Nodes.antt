-- Node trees: nodes by number, the walk of a tree, what is read off it, and how trees are joined
-- and changed.
use Rattle.std.specs.Prelude.{ℕ, zero, suc, ◌+◌, Bool, false, cond, not, ◌==◌, ◌||◌, nat_lt, nat_le, ℤ, pos, int_lt, nat_abs, Option, Some, None, is_some, is_none, List, [], ◌∷◌, ◌++◌, map, filter, flat_map, find, length, slice_get, slice_index_or, slice_set, bytes_eq}
use Rattle.std.specs.List.{insert}
use Rattle.ff_tree.specs.declared.limits.TheConstants.{MOST_HANDLERS}
use Rattle.ff_tree.specs.Spelled.{most}
use Rattle.ff_value.specs.declared.fault.Fault.{Fault}
use Rattle.ff_value.specs.declared.fault.Fault.TheVariants as fault
use Rattle.ff_value.specs.declared.ids.NodeId.{NodeId}
use Rattle.ff_value.specs.declared.ids.PageId.{PageId}
use Rattle.ff_value.specs.declared.output.ShownPart.{ShownPart}
use Rattle.ff_value.specs.declared.value.Code.{Code}
use Rattle.ff_machine.specs.declared.kinds.Kind.{Kind}
use Rattle.ff_machine.specs.declared.records.Shape.{Shape}
use Rattle.ff_machine.specs.declared.records.Shape.TheVariants as shape
use Rattle.ff_machine.specs.Faults.{limit_unless}
use Rattle.ff_machine.specs.declared.limits.TheConstants.{MOST_NODES, MOST_TREE_DEPTH}
use Rattle.ff_machine.specs.Kinds.{kind_word}
use Rattle.ff_machine.specs.Shapes.{kind_of, name_of, text_of, with_text, page_of, is_unstarted, as_started, may_have_children, may_have_handlers, shown_as}

-- a node: what it is, its handlers in order, its children in order, and the node that it is a child
-- of
pub record Node : Type 0 where
  pub shape : Shape
  pub handlers : List Code
  pub children : List NodeId
  pub parent : Option NodeId

-- what stands at a number that no node has
abbrev pub no_node : Node
no_node = record { shape = shape.Div []; handlers = []; children = []; parent = None }

-- the node of a number
abbrev pub node_at : List Node → NodeId → Node
node_at nodes n = slice_index_or nodes n.0 no_node

-- its children, in order
abbrev pub children : List Node → NodeId → List NodeId
children nodes n = (node_at nodes n).children

-- the node that it is a child of
abbrev pub parent : List Node → NodeId → Option NodeId
parent nodes n = (node_at nodes n).parent

-- another node at the number
abbrev pub set_node : List Node → NodeId → Node → List Node
set_node nodes n node = slice_set nodes n.0 node

-- the number of the next node
abbrev pub next_node : List Node → NodeId
next_node nodes = record { 0 = length nodes }

-- Walks.

-- the nodes at and below n in preorder, through so many generations
abbrev pub walk_within : ℕ → List Node → NodeId → List NodeId
walk_within zero nodes n = []
walk_within (suc more) nodes n = n ∷ flat_map (walk_within more nodes) (children nodes n)

-- the nodes at and below n in preorder
unfoldable pub Walk : List Node → NodeId → List NodeId
Walk nodes n = walk_within (suc MOST_TREE_DEPTH) nodes n

-- what is at a node that has no parent, or what its parent gives
abbrev pub at_parent : {X : Type 0} → X → (NodeId → X) → Option NodeId → X
at_parent here there None = here
at_parent here there (Some p) = there p

-- how many nodes stand above n, counted through so many generations
abbrev pub depth_within : ℕ → List Node → NodeId → ℕ
depth_within zero nodes n = 0
depth_within (suc more) nodes n = at_parent 0 (λ p. suc (depth_within more nodes p)) (parent nodes n)

-- how many nodes stand above n
unfoldable pub depth : List Node → NodeId → ℕ
depth nodes n = depth_within (suc MOST_TREE_DEPTH) nodes n

-- the topmost node above n, looked for through so many generations
abbrev pub root_within : ℕ → List Node → NodeId → NodeId
root_within zero nodes n = n
root_within (suc more) nodes n = at_parent n (root_within more nodes) (parent nodes n)

-- the root of the tree that n is in
unfoldable pub root : List Node → NodeId → NodeId
root nodes n = root_within (suc MOST_TREE_DEPTH) nodes n

-- the page whose root is the root of the tree that n is in, if there is one
abbrev pub page_root_of : List Node → NodeId → Option PageId
page_root_of nodes n = page_of (node_at nodes (root nodes n)).shape

-- how far the deepest node of the tree of a root stands below it
abbrev pub height : List Node → NodeId → ℕ
height nodes n = most (map (depth nodes) (Walk nodes n))

-- the nodes whose kind has that word, in preorder
abbrev pub of_word : List Node → NodeId → List ℕ → List NodeId
of_word nodes n word = filter (λ m. bytes_eq (kind_word (kind_of (node_at nodes m).shape)) word) (Walk nodes n)

-- the node of that kind and number in preorder
abbrev pub nth : List Node → NodeId → Kind → ℕ → Option NodeId
nth nodes n kind k = slice_get (of_word nodes n (kind_word kind)) k

-- there is a name, and it is this one
abbrev pub is_name : List ℕ → Option (List ℕ) → Bool
is_name x None = false
is_name x (Some y) = bytes_eq y x

-- the first node of that name in preorder
abbrev pub by_name : List Node → NodeId → List ℕ → Option NodeId
by_name nodes n x = find (λ m. is_name x (name_of (node_at nodes m).shape)) (Walk nodes n)

-- the scripts that weren't started, in preorder
abbrev pub scripts : List Node → NodeId → List NodeId
scripts nodes n = filter (λ m. is_unstarted (node_at nodes m).shape) (Walk nodes n)

-- what the user is shown of the children of n, through so many generations
abbrev pub shown_within : ℕ → List Node → NodeId → List ShownPart
shown_within zero nodes n = []
shown_within (suc more) nodes n = flat_map (λ c. shown_as (node_at nodes c).shape (shown_within more nodes c)) (children nodes n)

-- what the user is shown of the children of n
unfoldable pub shown : List Node → NodeId → List ShownPart
shown nodes n = shown_within (suc MOST_TREE_DEPTH) nodes n

-- Changes. Each is refused by the fault that stands above it.

-- so many nodes more are within the limit
abbrev pub has_room : List Node → ℕ → Bool
has_room nodes more = nat_le (length nodes + more) MOST_NODES

-- too many nodes, where so many more were made
abbrev pub room_fault : List Node → ℕ → Option Fault
room_fault nodes more = limit_unless (has_room nodes more)

-- the place among so many children or after them that a number is, if it is one
abbrev pub place_of : ℤ → ℕ → Option ℕ
place_of at count = cond (int_lt at (pos 0) || nat_lt count (nat_abs at)) None (Some (nat_abs at))

-- why a child can't stand under a parent, in order: the parent, and then the child, is of a kind
-- that doesn't fit; the child has a parent; the parent is in the child's tree; the place is none;
-- the deepest node would stand too deep
unfoldable pub insert_fault : List Node → NodeId → NodeId → ℤ → Option Fault
insert_fault nodes p c at =
    cond (not (may_have_children (node_at nodes p).shape)) (Some fault.Kind)
    (cond (is_some (page_of (node_at nodes c).shape)) (Some fault.Kind)
    (cond (is_some (parent nodes c)) (Some fault.Range)
    (cond ((root nodes p).0 == c.0) (Some fault.Range)
    (cond (is_none (place_of at (length (children nodes p)))) (Some fault.Range)
    (cond (nat_lt MOST_TREE_DEPTH (suc (depth nodes p + height nodes c))) (Some fault.Limit) None)))))

-- the child stands under the parent, at a place
unfoldable pub joined : List Node → NodeId → NodeId → ℕ → List Node
joined nodes p c at =
    let under = set_node nodes c (record (node_at nodes c) { parent = Some p }) in
    set_node under p (record (node_at nodes p) { children = insert (children nodes p) at c })

-- the kind has no text
abbrev pub text_fault : List Node → NodeId → Option Fault
text_fault nodes n = cond (is_some (text_of (node_at nodes n).shape)) None (Some fault.Kind)

-- a node with another text
abbrev pub text_set : List Node → NodeId → List ℕ → List Node
text_set nodes n text = set_node nodes n (record (node_at nodes n) { shape = with_text (node_at nodes n).shape text })

-- why a node gets no handler, in order: its kind has none; the function hasn't one parameter; there
-- are too many
abbrev pub handler_fault : List Node → NodeId → Code → Option Fault
handler_fault nodes n code =
    cond (not (may_have_handlers (node_at nodes n).shape)) (Some fault.Kind)
    (cond (not (length code.params == 1)) (Some fault.Kind)
    (limit_unless (nat_lt (length (node_at nodes n).handlers) MOST_HANDLERS)))

-- a node with a handler more, the last
abbrev pub handler_added : List Node → NodeId → Code → List Node
handler_added nodes n code = set_node nodes n (record (node_at nodes n) { handlers = (node_at nodes n).handlers ++ code ∷ [] })

-- a script that counts as started
abbrev pub started : List Node → NodeId → List Node
started nodes n = set_node nodes n (record (node_at nodes n) { shape = as_started (node_at nodes n).shape })
