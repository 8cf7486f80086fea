-- What each store keeps by itself: everything in it is well spelled, its own numbers were made, its
-- counts are within their limits. What refers to other stores stands in References.
use Rattle.std.specs.Prelude.{◌≡◌, ◌≢◌, ℕ, ◌<◌, ◌≤◌, false, ◌==◌, nat_eq, Option, Some, None, IsSome, List, [], All, IsTrue, length, map, filter_map, count_by, sum_by}
use Rattle.std.specs.List.{IsDistinct}
use Rattle.std.specs.Option.{ForSome}
use Rattle.std.specs.Str.{IsUtf8}
use Rattle.std.specs.FinMap as finmap
use Rattle.ff_name.specs.Spelling.{IsName, IsDomain}
use Rattle.ff_name.specs.Address.{IsRequest, IsWellSpelled}
use Rattle.ff_tree.specs.declared.limits.TheConstants.{MOST_HANDLERS}
use Rattle.ff_tree.specs.Spelled.{IsVar, IsWellSpelledExpr}
use Rattle.ff_value.specs.Spelled.{IsNat, IsWellSpelledCode, IsWellSpelledVal, TakesOne}
use Rattle.ff_value.specs.declared.ids.WinId.{WinId}
use Rattle.ff_value.specs.declared.ids.NodeId.{NodeId}
use Rattle.ff_value.specs.declared.ids.ActId.{ActId}
use Rattle.ff_value.specs.declared.value.Code.{Code}
use Rattle.ff_value.specs.declared.value.Val.{Val}
use Rattle.ff_machine.specs.declared.records.Dst.{Dst}
use Rattle.ff_machine.specs.declared.records.Dst.TheVariants as dst
use Rattle.ff_machine.specs.declared.records.Entry.{Entry}
use Rattle.ff_machine.specs.declared.records.Entry.TheVariants.{Ready, Wait}
use Rattle.ff_machine.specs.declared.records.Pending.{Pending}
use Rattle.ff_machine.specs.declared.records.Shape.{Shape}
use Rattle.ff_machine.specs.declared.records.Shape.TheVariants as shape
use Rattle.ff_machine.specs.declared.limits.TheConstants.{MOST_WINDOWS, MOST_PAGES, MOST_NODES, MOST_TREE_DEPTH, MOST_ACTS, MOST_VARS, MOST_ENTRIES, MOST_SLOTS, MOST_ASKS, MOST_ASKS_OF_DOMAIN, MOST_COOKIES, MOST_COOKIES_OF_DOMAIN}
use Rattle.ff_machine.specs.Shapes.{page_of, may_have_children, may_have_handlers}
use Rattle.ff_machine.specs.Nodes.{Node, children, parent, depth}
use Rattle.ff_machine.specs.Windows.{Windows, Window, Page, Activation, Vars, nth_window, nth_page, act_at, count_vars}
use Rattle.ff_machine.specs.Net.{Jar, Requests, count_asks, cookies_of, has_cookie_size}

-- a handler or a callback: a well spelled function of one parameter
pub record IsHandler (code : Code) : Type 0 where
  pub spelled : IsWellSpelledCode code
  pub takes_one : TakesOne code

-- Nodes.

-- the name, the text or label, the address and the expression that the kind has are well spelled
abbrev pub IsShape : Shape → Type 0
IsShape (shape.Page page) = Unit {0}
IsShape (shape.Text x text) = IsName x × IsUtf8 text
IsShape (shape.Link x url text) = IsName x × IsWellSpelled url × IsUtf8 text
IsShape (shape.TextBox x text) = IsName x × IsUtf8 text
IsShape (shape.Button x text) = IsName x × IsUtf8 text
IsShape (shape.Script x started body) = IsName x × IsWellSpelledExpr body
IsShape (shape.Src x started url) = IsName x × IsWellSpelled url
IsShape (shape.Div x) = IsName x

-- a node has handlers, children and a parent as its kind may
pub record HasForm (node : Node) : Type 0 where
  pub few_handlers : length node.handlers ≤ MOST_HANDLERS
  pub no_handlers : may_have_handlers node.shape ≡ false → node.handlers ≡ []
  pub no_children : may_have_children node.shape ≡ false → node.children ≡ []
  pub no_parent : IsSome (page_of node.shape) → node.parent ≡ None

-- a node whose shape and handlers are well spelled, and fit its kind
pub record IsNode (node : Node) : Type 0 where
  pub shape : IsShape node.shape
  pub handlers : All IsHandler node.handlers
  pub form : HasForm node

-- each child is a node, children and parents agree, a node stands once in its parent's list, and
-- chains of parents end
pub record AreTrees (nodes : List Node) : Type 0 where
  pub below : (n : NodeId) → All (λ c. c.0 < length nodes) (children nodes n)
  pub agree : (n : NodeId) → All (λ c. parent nodes c ≡ Some n) (children nodes n)
  pub once : (n p : NodeId) → parent nodes n ≡ Some p → count_by (λ c. c.0 == n.0) (children nodes p) ≡ 1
  pub ends : (n : NodeId) → depth nodes n ≤ MOST_TREE_DEPTH

-- a store of nodes that is valid by itself
pub record AreNodes (nodes : List Node) : Type 0 where
  pub each : All IsNode nodes
  pub trees : AreTrees nodes
  pub few : length nodes ≤ MOST_NODES

-- Windows, pages and activations.

-- a script is well spelled, and a slot has a number below the page's next one
abbrev pub IsEntry : ℕ → Entry → Type 0
IsEntry next (Ready body) = IsWellSpelledExpr body
IsEntry next (Wait slot) = slot < next

-- the number of a waiting slot
abbrev pub waiting : Entry → Option ℕ
waiting (Ready body) = None
waiting (Wait slot) = Some slot

-- the scripts and the slots of a queue; waiting slots differ
pub record IsQueue (next : ℕ) (queue : List Entry) : Type 0 where
  pub entries : All (IsEntry next) queue
  pub differ : IsDistinct nat_eq (filter_map waiting queue)

-- a page of a store with so many activations; nothing is said of its window and its root
pub record IsPage (acts : ℕ) (page : Page) : Type 0 where
  pub url : IsWellSpelled page.url
  pub act : page.act.0 < acts
  pub queue : IsQueue page.next page.queue
  pub few_slots : page.next ≤ MOST_SLOTS

-- the pages are each valid, and their queues are not too long together
pub record ArePages (acts : ℕ) (pages : List Page) : Type 0 where
  pub each : All (IsPage acts) pages
  pub few : length pages ≤ MOST_PAGES
  pub few_entries : sum_by (λ page. length page.queue) pages ≤ MOST_ENTRIES

-- a window of a store with so many windows and pages
pub record IsWindow (wins pages : ℕ) (window : Window) : Type 0 where
  pub name : ForSome window.name IsUtf8
  pub opener : ForSome window.opener (λ w. w.0 < wins)
  pub page : window.page.0 < pages

-- the open windows are windows, and differ
pub record AreOpen (wins : ℕ) (opened : List WinId) : Type 0 where
  pub there : All (λ w. w.0 < wins) opened
  pub differ : IsDistinct nat_eq (map (λ w. w.0) opened)
  pub few : length opened ≤ MOST_WINDOWS

-- the page of each window, open or closed, is one of its own, so there are no more windows than
-- pages
pub record AreOwn (windows : List Window) (pages : List Page) : Type 0 where
  pub own : (w : WinId) → w.0 < length windows → (nth_page pages (nth_window windows w).page).win ≡ w
  pub fewer : length windows ≤ length pages

-- each variable is one, and has a well spelled value
abbrev pub AreVars : Vars → Type 0
AreVars vars = (x : List ℕ) (v : Val) → finmap.get vars x ≡ Some v → IsVar x × IsWellSpelledVal v

-- the activation of a number: its parent was made before it
pub record IsAct (number : ℕ) (act : Activation) : Type 0 where
  pub parent : ForSome act.parent (λ p. p.0 < number)
  pub vars : AreVars act.vars

-- the activations are each valid, and have not too many variables together
pub record AreActs (acts : List Activation) : Type 0 where
  pub each : (a : ActId) → IsAct a.0 (act_at acts a)
  pub few : length acts ≤ MOST_ACTS
  pub few_vars : count_vars acts ≤ MOST_VARS

-- a store of windows, pages and activations that is valid by itself
pub record AreWindows (w : Windows) : Type 0 where
  pub windows : All (IsWindow (length w.windows) (length w.pages)) w.windows
  pub opened : AreOpen (length w.windows) w.opened
  pub pages : ArePages (length w.acts) w.pages
  pub own : AreOwn w.windows w.pages
  pub acts : AreActs w.acts

-- Cookies.

-- a cookie is of a domain, has a key and a value that are texts, and their sizes are within the
-- limits
pub record IsCookie (domain key value : List ℕ) : Type 0 where
  pub domain_is : IsDomain domain
  pub key_is : IsUtf8 key
  pub value_is : IsUtf8 value
  pub sizes : IsTrue (has_cookie_size key value)

-- a store of cookies that is valid by itself
pub record IsJar (jar : Jar) : Type 0 where
  pub each : (domain key value : List ℕ) → finmap.get jar (domain, key) ≡ Some value → IsCookie domain key value
  pub few : finmap.len jar ≤ MOST_COOKIES
  pub few_of : (domain : List ℕ) → cookies_of jar domain ≤ MOST_COOKIES_OF_DOMAIN

-- Pending requests.

-- a callback is a handler, and a slot's number is one of 32 bits; whether the slot waits is asked
-- when the reply comes
abbrev pub IsDst : Dst → Type 0
IsDst (dst.Window w) = Unit {0}
IsDst (dst.Slot page slot) = IsNat slot
IsDst (dst.Call page code) = IsHandler code

-- a pending request with a well spelled request text
pub record IsPending (pending : Pending) : Type 0 where
  pub uri : IsRequest pending.uri
  pub dst : IsDst pending.dst

-- the pending requests of a domain that has an entry: some, and not too many
pub record AreAsked (domain : List ℕ) (asks : List Pending) : Type 0 where
  pub domain_is : IsDomain domain
  pub some : asks ≢ []
  pub each : All IsPending asks
  pub few : length asks ≤ MOST_ASKS_OF_DOMAIN

-- a store of pending requests that is valid by itself
pub record AreRequests (requests : Requests) : Type 0 where
  pub each : (domain : List ℕ) (asks : List Pending) → finmap.get requests domain ≡ Some asks → AreAsked domain asks
  pub few : count_asks requests ≤ MOST_ASKS
