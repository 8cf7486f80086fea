-- How many cells are copied at most by what does more than one change.
use Rattle.std.specs.Prelude.{ℕ, ◌+◌, ◌*◌, List, length}
use Rattle.ff_name.specs.declared.urls.Url.{Url}
use Rattle.ff_tree.specs.declared.tree.Doc.{Doc}
use Rattle.ff_value.specs.declared.ids.NodeId.{NodeId}
use Rattle.ff_value.specs.declared.ids.WinId.{WinId}
use Rattle.ff_machine.specs.Nodes.{Node, next_node, scripts}
use Rattle.ff_machine.specs.Stores.{Stores, page_tree, with_shown_page}

-- for the scripts of a tree that start: 81 for each, which are 16 for its node, 33 for its request
-- and 32 for its page
abbrev pub starting : List Node → NodeId → ℕ
starting nodes n = 81 * length (scripts nodes n)

-- for a page that is made and shown: 47 for each of its nodes, and 47 for the page and its window
abbrev pub showing : Stores → List Doc → ℕ
showing s docs = 47 * (page_tree s docs).size + 47

-- for a page that is loaded: the same, and its scripts
abbrev pub loading : Stores → WinId → Url → List Doc → ℕ
loading s w url docs = showing s docs + starting (with_shown_page s w url docs).nodes (next_node s.nodes)
