-- What is left to search, in the trees of some nodes.
use Rattle.std.proofs.Common.{ℕ, Option, List, flat_map, find, filter}
use Rattle.std.specs.Str.{bytes_eq}
use Rattle.ff_value.specs.declared.ids.NodeId.{NodeId}
use Rattle.ff_value.specs.declared.output.ShownPart.{ShownPart}
use Rattle.ff_machine.specs.Kinds.{kind_word}
use Rattle.ff_machine.specs.Shapes.{kind_of, name_of, is_unstarted, shown_as}
use Rattle.ff_machine.specs.Nodes.{Node, Walk, node_at, is_name, shown}

-- the first node of that name in their trees
abbrev pub named_from : List Node → List ℕ → List NodeId → Option NodeId
named_from nodes x cs = find (λ m. is_name x (name_of (node_at nodes m).shape)) (flat_map (Walk nodes) cs)

-- the nodes of the kind of that word in their trees
abbrev pub kind_from : List Node → List ℕ → List NodeId → List NodeId
kind_from nodes word cs = filter (λ m. bytes_eq (kind_word (kind_of (node_at nodes m).shape)) word) (flat_map (Walk nodes) cs)

-- the scripts in their trees that weren't started
abbrev pub scripts_from : List Node → List NodeId → List NodeId
scripts_from nodes cs = filter (λ m. is_unstarted (node_at nodes m).shape) (flat_map (Walk nodes) cs)

-- what is shown of them
abbrev pub shown_from : List Node → List NodeId → List ShownPart
shown_from nodes cs = flat_map (λ c. shown_as (node_at nodes c).shape (shown nodes c)) cs
