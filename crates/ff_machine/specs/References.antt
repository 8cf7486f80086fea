-- What refers to windows, pages, nodes and activations of any store: only to such as were made.
use Rattle.std.specs.Prelude.{◌≡◌, ℕ, ◌<◌, ◌≤◌, Some, List, All, IsTrue, length}
use Rattle.std.specs.FinMap as finmap
use Rattle.std.specs.FinSet as finset
use Rattle.ff_value.specs.declared.ids.ActId.{ActId}
use Rattle.ff_value.specs.declared.value.Code.{Code}
use Rattle.ff_value.specs.declared.value.Val.{Val}
use Rattle.ff_value.specs.declared.value.Val.TheVariants as val
use Rattle.ff_machine.specs.declared.records.Dst.{Dst}
use Rattle.ff_machine.specs.declared.records.Dst.TheVariants as dst
use Rattle.ff_machine.specs.declared.records.Shape.{Shape}
use Rattle.ff_machine.specs.declared.records.Shape.TheVariants as shape
use Rattle.ff_machine.specs.Nodes.{Node}
use Rattle.ff_machine.specs.Windows.{Page, Activation, act_at}
use Rattle.ff_machine.specs.Net.{Requests, asked}
use Rattle.ff_machine.specs.Stores.{Stores, Pages}

-- how many windows, pages, nodes and activations were made: a reference is a number below the count
-- of its kind
pub record Made : Type 0 where
  pub wins : ℕ
  pub pages : ℕ
  pub nodes : ℕ
  pub acts : ℕ

-- how many of each the stores made
abbrev pub made : Stores → Made
made s = record { wins = length s.windows.windows; pages = length s.windows.pages; nodes = length s.nodes; acts = length s.windows.acts }

-- at least as many of each were made
pub record Grows (before after : Made) : Type 0 where
  pub wins : before.wins ≤ after.wins
  pub pages : before.pages ≤ after.pages
  pub nodes : before.nodes ≤ after.nodes
  pub acts : before.acts ≤ after.acts

-- the function's activation was made
abbrev pub CodeRefers : Made → Code → Type 0
CodeRefers m code = code.env.0 < m.acts

-- what the value refers to was made
abbrev pub ValRefers : Made → Val → Type 0
ValRefers m (val.Win w) = w.0 < m.wins
ValRefers m (val.Node n) = n.0 < m.nodes
ValRefers m (val.Code code) = CodeRefers m code
ValRefers m other = Unit {0}

-- the page whose root it is was made
abbrev pub ShapeRefers : Made → Shape → Type 0
ShapeRefers m (shape.Page page) = page.0 < m.pages
ShapeRefers m other = Unit {0}

-- what the node's shape and handlers refer to was made
pub record NodeRefers (m : Made) (node : Node) : Type 0 where
  pub shape : ShapeRefers m node.shape
  pub handlers : All (CodeRefers m) node.handlers

-- the page's window and root were made
pub record PageRefers (m : Made) (page : Page) : Type 0 where
  pub win : page.win.0 < m.wins
  pub root : page.root.0 < m.nodes

-- what the values of an activation's variables refer to was made
abbrev pub ActRefers : Made → Activation → Type 0
ActRefers m act = (x : List ℕ) (v : Val) → finmap.get act.vars x ≡ Some v → ValRefers m v

-- what the destination of a reply refers to was made; a slot's number is no reference
abbrev pub DstRefers : Made → Dst → Type 0
DstRefers m (dst.Window w) = w.0 < m.wins
DstRefers m (dst.Slot page slot) = page.0 < m.pages
DstRefers m (dst.Call page code) = (page.0 < m.pages) × CodeRefers m code

-- the same of all pending requests
abbrev pub RequestsRefer : Made → Requests → Type 0
RequestsRefer m requests = (domain : List ℕ) → All (λ pending. DstRefers m pending.dst) (asked requests domain)

-- each page that counts as changed was made
abbrev pub TouchedRefer : Made → Pages → Type 0
TouchedRefer m touched = (page : ℕ) → IsTrue (finset.contains touched page) → page < m.pages

-- what stores refer to was made, by counts that may be theirs
pub record StoresRefer (m : Made) (s : Stores) : Type 0 where
  pub nodes : All (NodeRefers m) s.nodes
  pub pages : All (PageRefers m) s.windows.pages
  pub acts : (a : ActId) → ActRefers m (act_at s.windows.acts a)
  pub requests : RequestsRefer m s.requests
  pub touched : TouchedRefer m s.touched
