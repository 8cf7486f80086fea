-- What is valid by counts of what was made is valid by greater ones.
use Rattle.std.proofs.Common.{◌≡◌, ◌<◌, List, All, arith}
use Rattle.std.proofs.lemmas.List.Elements.{All-weaker}
use Rattle.ff_value.specs.declared.ids.ActId.{ActId}
use Rattle.ff_value.specs.declared.value.Code.{Code}
use Rattle.ff_value.specs.declared.value.Val.{Val}
use Rattle.ff_value.specs.declared.value.Val.TheVariants as val
use Rattle.ff_term.specs.Running.{Running}
use Rattle.ff_term.proofs.Sound.{AreWeaker, weaker}
use Rattle.ff_machine.specs.declared.records.Dst.{Dst}
use Rattle.ff_machine.specs.declared.records.Dst.TheVariants as dst
use Rattle.ff_machine.specs.declared.records.Pending.{Pending}
use Rattle.ff_machine.specs.declared.records.Shape.{Shape}
use Rattle.ff_machine.specs.declared.records.Shape.TheVariants as shape
use Rattle.ff_machine.specs.Nodes.{Node}
use Rattle.ff_machine.specs.Windows.{Page, Activation, page_at, act_at}
use Rattle.ff_machine.specs.Net.{Requests, asked}
use Rattle.ff_machine.specs.Stores.{Stores, Pages}
use Rattle.ff_machine.specs.State.{Task}
use Rattle.ff_machine.specs.References.{Made, Grows, made, CodeRefers, ValRefers, ShapeRefers, NodeRefers, PageRefers, ActRefers, DstRefers, RequestsRefer, TouchedRefer, StoresRefer}
use Rattle.ff_machine.specs.Valid.{IsVal, IsRunning, IsTask, valid}

-- counts don't fall where nothing was made
pub as_many : (m : Made) → Grows m m
as_many m = record { wins = omega arith; pages = omega arith; nodes = omega arith; acts = omega arith }

-- counts that grow twice have grown
pub grown : (a b c : Made) → Grows a b → Grows b c → Grows a c
grown a b c g h = record {
  wins = omega (arith, g.wins, h.wins);
  pages = omega (arith, g.pages, h.pages);
  nodes = omega (arith, g.nodes, h.nodes);
  acts = omega (arith, g.acts, h.acts);
}

module _ (m k : Made) (grows : Grows m k) where
  -- a function's activation was made
  pub code_refers_grows : (code : Code) → CodeRefers m code → CodeRefers k code
  code_refers_grows code h = omega (arith, h, grows.acts)

  -- what a value refers to was made
  pub val_refers_grows : (v : Val) → ValRefers m v → ValRefers k v
  val_refers_grows val.Null h = tt
  val_refers_grows (val.Bool b) h = tt
  val_refers_grows (val.Num n) h = tt
  val_refers_grows (val.Str text) h = tt
  val_refers_grows (val.Win w) h = omega (arith, h, grows.wins)
  val_refers_grows (val.Node n) h = omega (arith, h, grows.nodes)
  val_refers_grows (val.Code code) h = code_refers_grows code h

  -- a value is valid
  pub val_grows : (v : Val) → IsVal m v → IsVal k v
  val_grows v h = (h.0, val_refers_grows v h.1)

  conditions_grow : AreWeaker (valid m) (valid k)
  conditions_grow = record {
    val = val_grows;
    var = λ x h. h;
    make = λ params body h. h;
    tree = λ doc h. h;
    prim = λ op n h. h;
    act = λ a h. omega (arith, h, grows.acts);
  }

  -- a runtime expression is valid
  pub running_grows : (e : Running) → IsRunning m e → IsRunning k e
  running_grows = weaker (valid m) (valid k) conditions_grow

  -- what a shape refers to was made
  pub shape_refers_grows : (s : Shape) → ShapeRefers m s → ShapeRefers k s
  shape_refers_grows (shape.Page page) h = omega (arith, h, grows.pages)
  shape_refers_grows (shape.Text x text) h = tt
  shape_refers_grows (shape.Link x url text) h = tt
  shape_refers_grows (shape.TextBox x text) h = tt
  shape_refers_grows (shape.Button x text) h = tt
  shape_refers_grows (shape.Script x started body) h = tt
  shape_refers_grows (shape.Src x started url) h = tt
  shape_refers_grows (shape.Div x) h = tt

  -- what a node refers to was made
  pub node_refers_grows : (node : Node) → NodeRefers m node → NodeRefers k node
  node_refers_grows node h = record {
    shape = shape_refers_grows node.shape h.shape;
    handlers = All-weaker (CodeRefers m) (CodeRefers k) code_refers_grows node.handlers h.handlers;
  }

  -- a page's window and root were made
  pub page_refers_grows : (page : Page) → PageRefers m page → PageRefers k page
  page_refers_grows page h = record { win = omega (arith, h.win, grows.wins); root = omega (arith, h.root, grows.nodes) }

  -- what an activation's values refer to was made
  pub act_refers_grows : (act : Activation) → ActRefers m act → ActRefers k act
  act_refers_grows act h = λ x v e. val_refers_grows v (h x v e)

  -- what a reply's destination refers to was made
  pub dst_refers_grows : (d : Dst) → DstRefers m d → DstRefers k d
  dst_refers_grows (dst.Window w) h = omega (arith, h, grows.wins)
  dst_refers_grows (dst.Slot page slot) h = omega (arith, h, grows.pages)
  dst_refers_grows (dst.Call page code) h = (omega (arith, h.0, grows.pages), code_refers_grows code h.1)

  -- what pending requests refer to was made
  pub requests_refer_grow : (r : Requests) → RequestsRefer m r → RequestsRefer k r
  requests_refer_grow r h = λ domain.
      All-weaker (λ (p : Pending). DstRefers m p.dst) (λ (p : Pending). DstRefers k p.dst) (λ p is. dst_refers_grows p.dst is) (asked r domain) (h domain)

  -- the pages that count as changed were made
  pub touched_refer_grow : (touched : Pages) → TouchedRefer m touched → TouchedRefer k touched
  touched_refer_grow touched h = λ page is. let there : page < m.pages = h page is in omega (arith, there, grows.pages)

  -- what the nodes refer to was made
  pub nodes_refer_grow : (nodes : List Node) → All (NodeRefers m) nodes → All (NodeRefers k) nodes
  nodes_refer_grow = All-weaker (NodeRefers m) (NodeRefers k) node_refers_grows

  -- what the pages refer to was made
  pub pages_refer_grow : (pages : List Page) → All (PageRefers m) pages → All (PageRefers k) pages
  pages_refer_grow = All-weaker (PageRefers m) (PageRefers k) page_refers_grows

  -- what the activations refer to was made
  pub acts_refer_grow : (acts : List Activation) → ((a : ActId) → ActRefers m (act_at acts a)) → (a : ActId) → ActRefers k (act_at acts a)
  acts_refer_grow acts h a = act_refers_grows (act_at acts a) (h a)

  -- what stores refer to was made
  pub stores_refer_grow : (s : Stores) → StoresRefer m s → StoresRefer k s
  stores_refer_grow s h = record {
    nodes = nodes_refer_grow s.nodes h.nodes;
    pages = pages_refer_grow s.windows.pages h.pages;
    acts = acts_refer_grow s.windows.acts h.acts;
    requests = requests_refer_grow s.requests h.requests;
    touched = touched_refer_grow s.touched h.touched;
  }

-- a task is valid in stores where at least as much was made and its page has the same activation
pub task_grows : (s t : Stores) → Grows (made s) (made t) → (task : Task) → (page_at t.windows task.page).act ≡ (page_at s.windows task.page).act → IsTask s task → IsTask t task
task_grows s t grows task same h = record {
  page = omega (arith, h.page, grows.pages);
  act = cc;
  running = running_grows (made s) (made t) grows task.running.expr h.running;
  around = h.around;
  shallow = h.shallow;
}
