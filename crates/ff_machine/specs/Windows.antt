-- Windows, pages with their queues of scripts, and activations with their variables: each by its
-- number.
use Rattle.std.specs.Prelude.{ℕ, zero, suc, ◌+◌, Bool, true, false, cond, not, ◌==◌, ◌&&◌, nat_lt, nat_le, Option, Some, None, List, [], ◌∷◌, ◌++◌, map, filter, length, find, position, sum_by, drop, slice_index_or, slice_set, is_some, option_and_then}
use Rattle.std.specs.List.{list_any, zip}
use Rattle.std.specs.Ordering.{nat_cmp}
use Rattle.std.specs.Cmp.Lexicographic.{slice_cmp}
use Rattle.std.specs.FinMap as finmap
use Rattle.ff_name.specs.declared.urls.Url.{Url}
use Rattle.ff_name.specs.declared.urls.Url.TheVariants as url
use Rattle.ff_tree.specs.declared.tree.Expr.{Expr}
use Rattle.ff_value.specs.declared.ids.WinId.{WinId}
use Rattle.ff_value.specs.declared.ids.PageId.{PageId}
use Rattle.ff_value.specs.declared.ids.NodeId.{NodeId}
use Rattle.ff_value.specs.declared.ids.ActId.{ActId}
use Rattle.ff_value.specs.declared.value.Val.{Val}
use Rattle.ff_value.specs.declared.fault.Fault.{Fault}
use Rattle.ff_value.specs.declared.fault.Fault.TheVariants as fault
use Rattle.ff_machine.specs.declared.records.Entry.{Entry}
use Rattle.ff_machine.specs.declared.records.Entry.TheVariants.{Ready, Wait}
use Rattle.ff_machine.specs.Faults.{limit_unless}
use Rattle.ff_machine.specs.declared.limits.TheConstants.{MOST_WINDOWS, MOST_PAGES, MOST_ACTS, MOST_VARS}
use Rattle.ff_machine.specs.Nodes.{is_name}

-- values by name
abbrev pub Vars : Type 0
Vars = finmap.FinMap (slice_cmp nat_cmp) Val

-- a window, open or closed: its name and its opener, where it has them, and its page
pub record Window : Type 0 where
  pub name : Option (List ℕ)
  pub opener : Option WinId
  pub page : PageId

-- a page: its address, window, root, activation, the number of its next slot, and the queue of its
-- scripts
pub record Page : Type 0 where
  pub url : Url
  pub win : WinId
  pub root : NodeId
  pub act : ActId
  pub next : ℕ
  pub queue : List Entry

-- an activation: the one around it, where there is one, and its variables
pub record Activation : Type 0 where
  pub parent : Option ActId
  pub vars : Vars

-- all windows, pages and activations ever made, each at its number, and the open windows in order
-- of opening
pub record Windows : Type 0 where
  pub windows : List Window
  pub opened : List WinId
  pub pages : List Page
  pub acts : List Activation

-- nothing was made
abbrev pub empty : Windows
empty = record { windows = []; opened = []; pages = []; acts = [] }

-- what stands at a number that no window has
abbrev pub no_window : Window
no_window = record { name = None; opener = None; page = record { 0 = 0 } }

-- what stands at a number that no page has
abbrev pub no_page : Page
no_page = record { url = url.Blank; win = record { 0 = 0 }; root = record { 0 = 0 }; act = record { 0 = 0 }; next = 0; queue = [] }

-- an activation without parent and variables: a page's when it is made, and what stands at a number
-- that no activation has
abbrev pub no_act : Activation
no_act = record { parent = None; vars = finmap.empty }

-- the window of a number, in a list of them
abbrev pub nth_window : List Window → WinId → Window
nth_window windows n = slice_index_or windows n.0 no_window

-- the page of a number, in a list of them
abbrev pub nth_page : List Page → PageId → Page
nth_page pages p = slice_index_or pages p.0 no_page

-- the window of a number
abbrev pub window_at : Windows → WinId → Window
window_at w n = nth_window w.windows n

-- the page of a number
abbrev pub page_at : Windows → PageId → Page
page_at w p = nth_page w.pages p

-- the activation of a number
abbrev pub act_at : List Activation → ActId → Activation
act_at acts a = slice_index_or acts a.0 no_act

-- the number of the next window
abbrev pub next_win : Windows → WinId
next_win w = record { 0 = length w.windows }

-- the number of the next page
abbrev pub next_page : Windows → PageId
next_page w = record { 0 = length w.pages }

-- the number of the next activation
abbrev pub next_act : Windows → ActId
next_act w = record { 0 = length w.acts }

-- Windows.

-- the two are the same window
abbrev pub is_win : WinId → WinId → Bool
is_win n m = n.0 == m.0

-- the place of a window among the open ones, where it is open
abbrev pub place : Windows → WinId → Option ℕ
place w n = position (is_win n) w.opened

-- the window is open
abbrev pub is_open : Windows → WinId → Bool
is_open w n = list_any (is_win n) w.opened

-- the first open window of that name
abbrev pub named : Windows → List ℕ → Option WinId
named w x = find (λ n. is_name x (window_at w n).name) w.opened

-- the page is live: that of an open window
abbrev pub is_live : Windows → PageId → Bool
is_live w p = list_any (λ n. (window_at w n).page.0 == p.0) w.opened

-- one page and one activation more are within their limits
abbrev pub has_page_room : Windows → Bool
has_page_room w = nat_lt (length w.pages) MOST_PAGES && nat_lt (length w.acts) MOST_ACTS

-- one page, one activation and one open window more are within their limits
abbrev pub has_window_room : Windows → Bool
has_window_room w = has_page_room w && nat_lt (length w.opened) MOST_WINDOWS

-- a page at its beginning
abbrev pub new_page : Url → WinId → NodeId → ActId → Page
new_page url win root act = record { url = url; win = win; root = root; act = act; next = 0; queue = [] }

-- a page more, with an activation of its own that has no parent
abbrev pub with_page : Windows → Url → WinId → NodeId → Windows
with_page w url win root = record w { pages = w.pages ++ new_page url win root (next_act w) ∷ []; acts = w.acts ++ no_act ∷ [] }

-- a window more, the last of the open ones
abbrev pub with_window : Windows → Option (List ℕ) → Option WinId → PageId → Windows
with_window w name opener page = record w { windows = w.windows ++ record { name = name; opener = opener; page = page } ∷ []; opened = w.opened ++ next_win w ∷ [] }

-- another window at the number
abbrev pub set_window : Windows → WinId → Window → Windows
set_window w n window = record w { windows = slice_set w.windows n.0 window }

-- the window shows another page
abbrev pub page_shown : Windows → WinId → PageId → Windows
page_shown w n page = set_window w n (record (window_at w n) { page = page })

-- the window is none of the open ones
abbrev pub closed : Windows → WinId → Windows
closed w n = record w { opened = filter (λ m. not (is_win n m)) w.opened }

-- Queues.

-- another page at the number
abbrev pub set_page : Windows → PageId → Page → Windows
set_page w p page = record w { pages = slice_set w.pages p.0 page }

-- an entry more, the last of the page's queue
abbrev pub with_entry : Windows → PageId → Entry → Windows
with_entry w p entry = set_page w p (record (page_at w p) { queue = (page_at w p).queue ++ entry ∷ [] })

-- a waiting slot more, the last of the page's queue, which has the page's next slot number
abbrev pub with_slot : Windows → PageId → Windows
with_slot w p = set_page w p (record (page_at w p) { queue = (page_at w p).queue ++ Wait (page_at w p).next ∷ []; next = suc (page_at w p).next })

-- the entry is the waiting slot of that number
abbrev pub is_slot : ℕ → Entry → Bool
is_slot slot (Ready body) = false
is_slot slot (Wait k) = k == slot

-- the slot of that number waits in the page's queue
abbrev pub waits : Windows → PageId → ℕ → Bool
waits w p slot = list_any (is_slot slot) (page_at w p).queue

-- the waiting slot of that number becomes the script; any other entry stays
abbrev pub fill_entry : ℕ → Expr → Entry → Entry
fill_entry slot body entry = cond (is_slot slot entry) (Ready body) entry

-- the slot of that number becomes the script, where it waits
abbrev pub filled : Windows → PageId → ℕ → Expr → Windows
filled w p slot body = set_page w p (record (page_at w p) { queue = map (fill_entry slot body) (page_at w p).queue })

-- the script that the queue begins with, if it does
abbrev pub first_ready : List Entry → Option Expr
first_ready [] = None
first_ready (Ready body ∷ queue) = Some body
first_ready (Wait slot ∷ queue) = None

-- the queue without its first entry
abbrev pub popped : Windows → PageId → Windows
popped w p = set_page w p (record (page_at w p) { queue = drop 1 (page_at w p).queue })

-- the page of the first open window whose queue begins with a script that may run
abbrev pub ready : Windows → Option PageId
ready w = find (λ p. is_some (first_ready (page_at w p).queue)) (map (λ n. (window_at w n).page) w.opened)

-- Activations.

-- the variables of an activation
abbrev pub vars_of : List Activation → ActId → Vars
vars_of acts a = (act_at acts a).vars

-- the nearest activation, from a on through so many parents, that has the variable
abbrev pub holder_within : ℕ → List Activation → ActId → List ℕ → Option ActId
holder_within zero acts a x = None
holder_within (suc more) acts a x =
    cond (finmap.contains_key (vars_of acts a) x) (Some a) (option_and_then (λ p. holder_within more acts p x) (act_at acts a).parent)

-- the nearest activation that has the variable: a, or one of its parents, whose numbers are smaller
unfoldable pub holder : List Activation → ActId → List ℕ → Option ActId
holder acts a x = holder_within (suc a.0) acts a x

-- the value of the nearest variable of that name
abbrev pub lookup : List Activation → ActId → List ℕ → Option Val
lookup acts a x = option_and_then (λ b. finmap.get (vars_of acts b) x) (holder acts a x)

-- the variable is the activation's, with this value
abbrev pub set_var : List Activation → ActId → List ℕ → Val → List Activation
set_var acts a x v = slice_set acts a.0 (record (act_at acts a) { vars = finmap.insert (vars_of acts a) x v })

-- how many variables were declared
abbrev pub count_vars : List Activation → ℕ
count_vars acts = sum_by (λ act. finmap.len act.vars) acts

-- one more variable is within the limit, or the activation has it
abbrev pub may_declare : List Activation → ActId → List ℕ → Bool
may_declare acts a x = cond (finmap.contains_key (vars_of acts a) x) true (nat_lt (count_vars acts) MOST_VARS)

-- an activation more, and its parameters, are within their limits
abbrev pub may_call : List Activation → ℕ → Bool
may_call acts params = nat_lt (length acts) MOST_ACTS && nat_le (count_vars acts + params) MOST_VARS

-- an activation more, under its parent, with its parameters declared; they differ, so each has its
-- own argument
abbrev pub with_act : List Activation → ActId → List (List ℕ) → List Val → List Activation
with_act acts parent params args = acts ++ record { parent = Some parent; vars = finmap.from_entries (zip params args) } ∷ []

-- The faults of what makes and changes them.

-- no room for a page
abbrev pub page_fault : Windows → Option Fault
page_fault w = limit_unless (has_page_room w)

-- as many windows are open as may be
abbrev pub window_fault : Windows → Option Fault
window_fault w = limit_unless (nat_lt (length w.opened) MOST_WINDOWS)

-- no room for a variable
abbrev pub declare_fault : List Activation → ActId → List ℕ → Option Fault
declare_fault acts a x = limit_unless (may_declare acts a x)

-- no activation has the variable
abbrev pub assign_fault : Option ActId → Option Fault
assign_fault None = Some fault.Name
assign_fault (Some a) = None

-- the variable of the activation that holds it, if any, has another value
abbrev pub assigned : List Activation → Option ActId → List ℕ → Val → List Activation
assigned acts None x v = acts
assigned acts (Some a) x v = set_var acts a x v

-- no room for an activation with so many parameters
abbrev pub call_fault : List Activation → ℕ → Option Fault
call_fault acts params = limit_unless (may_call acts params)

-- other activations
abbrev pub with_acts : Windows → List Activation → Windows
with_acts w acts = record w { acts = acts }
