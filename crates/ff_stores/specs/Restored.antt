-- Stores that are made of their parts.
use Rattle.std.specs.Prelude.{◌≡◌, ℕ, ◌<◌, List, All, length}
use Rattle.std.specs.FinSet as finset
use Rattle.ff_value.specs.declared.ids.ActId.{ActId}
use Rattle.ff_value.specs.declared.ids.NodeId.{NodeId}
use Rattle.ff_value.specs.declared.ids.PageId.{PageId}
use Rattle.ff_machine.specs.declared.records.Shape.TheVariants as shape
use Rattle.ff_machine.specs.Nodes.{Node, node_at}
use Rattle.ff_machine.specs.Windows.{Windows, Page, nth_page, act_at}
use Rattle.ff_machine.specs.References.{Made, NodeRefers, PageRefers, ActRefers, RequestsRefer}
use Rattle.ff_machine.specs.Net.{Jar, Requests}
use Rattle.ff_machine.specs.Stores.{Stores}
use Rattle.ff_machine.specs.Valid.{IsStores}

-- all that stores hold but the pages that were touched
pub record Parts : Type 0 where
  pub nodes : List Node
  pub windows : Windows
  pub jar : Jar
  pub requests : Requests
  pub mass : ℕ

-- the parts of stores
abbrev pub parts_of : Stores → Parts
parts_of s = record { nodes = s.nodes; windows = s.windows; jar = s.jar; requests = s.requests; mass = s.mass }

-- the stores of parts, with no page touched
abbrev pub untouched : Parts → Stores
untouched p = record { nodes = p.nodes; windows = p.windows; jar = p.jar; requests = p.requests; mass = p.mass; touched = finset.empty }

-- valid stores in which no page is touched
abbrev pub AreUntouched : Stores → Type 0
AreUntouched s = IsStores s × (s.touched ≡ finset.empty)

-- how many of each were made
abbrev pub made_of : List Node → Windows → Made
made_of nodes windows = record { wins = length windows.windows; pages = length windows.pages; nodes = length nodes; acts = length windows.acts }

-- what nodes, pages, variables and requests refer to was made
pub record DoRefer (nodes : List Node) (windows : Windows) (requests : Requests) : Type 0 where
  pub nodes_do : All (NodeRefers (made_of nodes windows)) nodes
  pub pages_do : All (PageRefers (made_of nodes windows)) windows.pages
  pub acts_do : (a : ActId) → ActRefers (made_of nodes windows) (act_at windows.acts a)
  pub requests_do : RequestsRefer (made_of nodes windows) requests

-- roots of pages are nodes, and each root's page is one
pub record RootsLive (nodes : List Node) (pages : List Page) : Type 0 where
  pub pages_do : (p : PageId) → p.0 < length pages → (nth_page pages p).root.0 < length nodes
  pub nodes_do : (n : NodeId) (p : PageId) → (node_at nodes n).shape ≡ shape.Page p → p.0 < length pages

-- the root of each page is the root of that page
abbrev pub HaveRoots : List Node → List Page → Type 0
HaveRoots nodes pages = (p : PageId) → p.0 < length pages → (node_at nodes (nth_page pages p).root).shape ≡ shape.Page p

-- each root of a page is the root that this page has
abbrev pub AreRoots : List Node → List Page → Type 0
AreRoots nodes pages = (n : NodeId) (p : PageId) → (node_at nodes n).shape ≡ shape.Page p → (nth_page pages p).root ≡ n
