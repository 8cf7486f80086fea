-- The operators on cookies, windows, nodes and requests: what each gives for its operands, what it
-- leaves and what it puts, or why it fails. A fault changes nothing.
use Rattle.std.specs.Prelude.{ℕ, cond, ◌==◌, ◌&&◌, ℤ, pos, nat_abs, int_lt, Option, Some, None, Result, Ok, Err, List, [], length, slice_get, option_and_then}
use Rattle.ff_confinement.specs.Turns.{Stepped}
use Rattle.ff_name.specs.Address.{printed}
use Rattle.ff_name.specs.declared.urls.Url.{Url}
use Rattle.ff_name.specs.declared.urls.Url.TheVariants as url
use Rattle.ff_tree.specs.declared.op.Op.{Op}
use Rattle.ff_tree.specs.declared.op.Op.TheVariants as op
use Rattle.ff_value.specs.declared.fault.Fault.{Fault}
use Rattle.ff_value.specs.declared.fault.Fault.TheVariants as fault
use Rattle.ff_value.specs.declared.ids.WinId.{WinId}
use Rattle.ff_value.specs.declared.ids.PageId.{PageId}
use Rattle.ff_value.specs.declared.ids.NodeId.{NodeId}
use Rattle.ff_value.specs.declared.output.Out.{Out}
use Rattle.ff_value.specs.declared.value.Code.{Code}
use Rattle.ff_value.specs.declared.value.Val.{Val}
use Rattle.ff_value.specs.declared.value.Val.TheVariants as val
use Rattle.ff_machine.specs.declared.records.Dst.TheVariants as dst
use Rattle.ff_operators.specs.declared.answer.Applied.{Applied}
use Rattle.ff_operators.specs.Pure.{apply, made}
use Rattle.ff_operators.specs.Operands.{with_operands, no_operands, one_str, two_strs, one_win, win_str, one_node, node_str, node_num, node_str_num, nodes_num, node_code, strs_code}
use Rattle.ff_name.specs.Reading.{read_url}
use Rattle.ff_machine.specs.Kinds.{kind_word}
use Rattle.ff_machine.specs.Shapes.{kind_of, text_of}
use Rattle.ff_machine.specs.Nodes as nodes
use Rattle.ff_machine.specs.Nodes.{node_at, children}
use Rattle.ff_machine.specs.Windows as windows
use Rattle.ff_machine.specs.Windows.{is_open, page_at, window_at}
use Rattle.ff_machine.specs.Net as net
use Rattle.ff_machine.specs.Stores as stores
use Rattle.ff_machine.specs.Stores.{Stores}

-- what an operator does: a value, the stores after it, and its outputs
pub record Did : Type 0 where
  pub value : Val
  pub after : Stores
  pub outputs : List Out

-- what it does, or why it fails: then nothing changes
abbrev pub Outcome : Type 0
Outcome = Result Did Fault

-- a value, and nothing changes
abbrev pub gives : Stores → Val → Outcome
gives s v = Ok (record { value = v; after = s; outputs = [] })

-- null, and the stores become others
abbrev pub becomes : Stores → Outcome
becomes s = Ok (record { value = val.Null; after = s; outputs = [] })

-- a value, and a step
abbrev pub does : Val → Stepped Out Stores → Outcome
does v step = Ok (record { value = v; after = step.after; outputs = step.outputs })

-- a value, and a step that is made where there is room for it
abbrev pub does_or_limit : Val → Option (Stepped Out Stores) → Outcome
does_or_limit v None = Err fault.Limit
does_or_limit v (Some step) = does v step

-- where there is a fault, it; else what follows
abbrev pub unless : Option Fault → Outcome → Outcome
unless None done = done
unless (Some f) done = Err f

-- what a pure operator gives: a value and a mass
abbrev pub with_mass : Stores → Result Applied Fault → Outcome
with_mass s (Ok applied) = Ok (record { value = applied.value; after = record s { mass = applied.mass }; outputs = [] })
with_mass s (Err f) = Err f

-- what there is as a value, or null
abbrev pub or_null : {X : Type 0} → (X → Val) → Option X → Val
or_null f None = val.Null
or_null f (Some x) = f x

-- Cookies, of the domain of the task's page.

-- the domain of an address
abbrev pub domain_of : Url → Option (List ℕ)
domain_of url.Blank = None
domain_of (url.At domain uri) = Some domain

-- the domain of a page, which a blank page doesn't have
abbrev pub page_domain : Stores → PageId → Option (List ℕ)
page_domain s page = domain_of (page_at s.windows page).url

-- the page's cookie of that key
abbrev pub cookie : Stores → PageId → List ℕ → Outcome
cookie s page key = gives s (or_null val.Str (option_and_then (λ d. net.cookie s.jar d key) (page_domain s page)))

-- the domain's cookie of that key has the value, where it has a size and room
abbrev pub set_cookie : Stores → Option (List ℕ) → List ℕ → List ℕ → Outcome
set_cookie s None key value = Err fault.Range
set_cookie s (Some d) key value = unless (net.cookie_fault s.jar d key value) (becomes (record s { jar = net.cookie_put s.jar d key value }))

-- the domain has no cookie of that key
abbrev pub del_cookie : Stores → Option (List ℕ) → List ℕ → Outcome
del_cookie s None key = becomes s
del_cookie s (Some d) key = becomes (record s { jar = net.cookie_deleted s.jar d key })

-- Windows.

-- the window of a page
abbrev pub self_window : Stores → PageId → WinId
self_window s page = (page_at s.windows page).win

-- what is done with an open window; any other is dead
abbrev pub if_open : Stores → WinId → Outcome → Outcome
if_open s w done = cond (is_open s.windows w) done (Err fault.Dead)

-- what is done at the address that a text spells; any other text is out of range
abbrev pub at_url : Option Url → (Url → Outcome) → Outcome
at_url None f = Err fault.Range
at_url (Some u) f = f u

-- the opener of an open window
abbrev pub opener : Stores → WinId → Outcome
opener s w = if_open s w (gives s (or_null val.Win (window_at s.windows w).opener))

-- the address of an open window's page, as a text that is made
abbrev pub page_url : Stores → WinId → Outcome
page_url s w = if_open s w (with_mass s (made s.mass (printed (page_at s.windows (window_at s.windows w).page).url)))

-- the root of an open window's page
abbrev pub page_root : Stores → WinId → Outcome
page_root s w = if_open s w (gives s (val.Node (page_at s.windows (window_at s.windows w).page).root))

-- a window opens at an address, with the task's window for its opener, where there is room for it
-- and for its request
abbrev pub open_at : Stores → PageId → Option (List ℕ) → Url → Outcome
open_at s page name url.Blank =
    does_or_limit (val.Win (windows.next_win s.windows)) (stores.open_window s name (Some (self_window s page)))
open_at s page name (url.At domain uri) =
    let w = windows.next_win s.windows in
    cond (stores.has_window_room s && stores.has_ask_room s domain)
    (does (val.Win w) (stores.then (stores.opened s name (Some (self_window s page))) (λ t. stores.sent t domain uri [] (dst.Window w))))
    (Err fault.Limit)

-- the first open window of that name goes to the address; else one opens there
abbrev pub open_named : Stores → PageId → List ℕ → Url → Option WinId → Outcome
open_named s page name u None = open_at s page (Some name) u
open_named s page name u (Some w) = does_or_limit (val.Win w) (stores.go s w u)

-- an open window goes to an address
abbrev pub go : Stores → WinId → List ℕ → Outcome
go s w text = if_open s w (at_url (read_url text) (λ u. does_or_limit val.Null (stores.go s w u)))

-- an open window closes
abbrev pub close : Stores → WinId → Outcome
close s w = if_open s w (does val.Null (stores.close_window s w))

-- Nodes.

-- the text of a node whose kind has one
abbrev pub text : Stores → Option (List ℕ) → Outcome
text s None = Err fault.Kind
text s (Some t) = gives s (val.Str t)

-- a node whose kind has a text gets another
abbrev pub set_text : Stores → NodeId → List ℕ → Outcome
set_text s n t = unless (stores.set_text_fault s n t) (becomes (stores.with_text s n t))

-- the item at a number, where it is one
abbrev pub item_at : {X : Type 0} → List X → ℤ → Option X
item_at xs k = cond (int_lt k (pos 0)) None (slice_get xs (nat_abs k))

-- the child, if there is one
abbrev pub child : Stores → Option NodeId → Outcome
child s None = Err fault.Range
child s (Some c) = gives s (val.Node c)

-- the node of that kind and number, or null; no node is of a kind whose word isn't one
abbrev pub nth : Stores → NodeId → List ℕ → ℤ → Outcome
nth s n word k = gives s (or_null val.Node (item_at (nodes.of_word s.nodes n word) k))

-- a child stands under a parent, and its scripts start
abbrev pub insert : Stores → NodeId → NodeId → ℤ → Outcome
insert s p c at = unless (nodes.insert_fault s.nodes p c at) (does val.Null (stores.insert s p c (nat_abs at)))

-- a node gets a handler
abbrev pub listen : Stores → NodeId → Code → Outcome
listen s n code = unless (nodes.handler_fault s.nodes n code) (becomes (record s { nodes = nodes.handler_added s.nodes n code }))

-- Requests.

-- the body is sent to an address other than `about:blank`, where there is room
abbrev pub ask_at : Stores → PageId → List ℕ → Code → Url → Outcome
ask_at s page body code url.Blank = Err fault.Range
ask_at s page body code (url.At domain uri) = does_or_limit val.Null (stores.send s domain uri body (dst.Call page code))

-- the body is sent to an address, whose reply a function of one parameter is called with
abbrev pub ask : Stores → PageId → List ℕ → List ℕ → Code → Outcome
ask s page address body code = cond (length code.params == 1) (at_url (read_url address) (ask_at s page body code)) (Err fault.Kind)

-- what an operator does with its operands, for a task of the page
abbrev pub operate : Stores → PageId → Op → List Val → Outcome
operate s page op.Cookie args = with_operands (one_str args) (cookie s page)
operate s page op.SetCookie args = with_operands (two_strs args) (λ o. set_cookie s (page_domain s page) o.0 o.1)
operate s page op.DelCookie args = with_operands (one_str args) (del_cookie s (page_domain s page))
operate s page op.SelfWindow args = with_operands (no_operands args) (λ _. gives s (val.Win (self_window s page)))
operate s page op.Opener args = with_operands (one_win args) (opener s)
operate s page op.Live args = with_operands (one_win args) (λ w. gives s (val.Bool (is_open s.windows w)))
operate s page op.Url args = with_operands (one_win args) (page_url s)
operate s page op.Page args = with_operands (one_win args) (page_root s)
operate s page op.Window args = with_operands (one_str args) (λ name. gives s (or_null val.Win (windows.named s.windows name)))
operate s page op.Open args = with_operands (one_str args) (λ address. at_url (read_url address) (open_at s page None))
operate s page op.OpenNamed args = with_operands (two_strs args) (λ o. at_url (read_url o.1) (λ u. open_named s page o.0 u (windows.named s.windows o.0)))
operate s page op.Go args = with_operands (win_str args) (λ o. go s o.0 o.1)
operate s page op.Close args = with_operands (one_win args) (close s)
operate s page op.Kind args = with_operands (one_node args) (λ n. gives s (val.Str (kind_word (kind_of (node_at s.nodes n).shape))))
operate s page op.Text args = with_operands (one_node args) (λ n. text s (text_of (node_at s.nodes n).shape))
operate s page op.SetText args = with_operands (node_str args) (λ o. set_text s o.0 o.1)
operate s page op.Count args = with_operands (one_node args) (λ n. gives s (val.Num (pos (length (children s.nodes n)))))
operate s page op.Child args = with_operands (node_num args) (λ o. child s (item_at (children s.nodes o.0) o.1))
operate s page op.Find args = with_operands (node_str args) (λ o. gives s (or_null val.Node (nodes.by_name s.nodes o.0 o.1)))
operate s page op.Nth args = with_operands (node_str_num args) (λ o. nth s o.0 o.1 o.2)
operate s page op.Insert args = with_operands (nodes_num args) (λ o. insert s o.0 o.1 o.2)
operate s page op.Listen args = with_operands (node_code args) (λ o. listen s o.0 o.1)
operate s page op.Ask args = with_operands (strs_code args) (λ o. ask s page o.0 o.1 o.2)
operate s page pure args = with_mass s (apply pure args s.mass)
