-- Codes of what contracts see of the stores and of a browser, by which proofs tell two of them
-- apart.
use Rattle.std.specs.Prelude.{ℕ, Bool, List, Option, refl}
use Rattle.std.specs.Coded.{Coded, code_by, coded×, coded_ℕ, coded_bool, coded_list, coded_option}
use Rattle.std.specs.FinMap as finmap
use Rattle.std.specs.FinSet as finset
use Rattle.ff_name.specs.contracts.urls.Url as url
use Rattle.ff_name.specs.declared.urls.Url.{Url}
use Rattle.ff_value.specs.contracts.ids.WinId as win
use Rattle.ff_value.specs.contracts.ids.PageId as page
use Rattle.ff_value.specs.contracts.ids.NodeId as node
use Rattle.ff_value.specs.contracts.ids.ActId as act
use Rattle.ff_value.specs.declared.ids.WinId.{WinId}
use Rattle.ff_value.specs.declared.ids.PageId.{PageId}
use Rattle.ff_value.specs.declared.ids.NodeId.{NodeId}
use Rattle.ff_value.specs.declared.ids.ActId.{ActId}
use Rattle.ff_value.specs.contracts.value.Code as code
use Rattle.ff_value.specs.contracts.value.Val as val
use Rattle.ff_value.specs.declared.value.Code.{Code}
use Rattle.ff_machine.specs.contracts.records.Shape as shape
use Rattle.ff_machine.specs.contracts.records.Entry as entry
use Rattle.ff_machine.specs.contracts.records.Pending as request
use Rattle.ff_machine.specs.declared.records.Shape.{Shape}
use Rattle.ff_machine.specs.declared.records.Entry.{Entry}
use Rattle.ff_term.specs.Running.{Evaluation}
use Rattle.ff_term.specs.Coding.{coded_evaluation}
use Rattle.ff_machine.specs.Nodes.{Node}
use Rattle.ff_machine.specs.Windows.{Windows, Window, Page, Activation, Vars}
use Rattle.ff_machine.specs.Net.{Jar, Requests}
use Rattle.ff_machine.specs.Stores.{Stores, Pages}
use Rattle.ff_machine.specs.State.{State, Task}

-- of nodes
abbrev pub coded_node : Coded Node
coded_node =
    code_by (Shape × (List Code × (List NodeId × Option NodeId)))
    (coded× shape.the_row.coded (coded× (coded_list code.the_row.coded) (coded× (coded_list node.the_row.coded) (coded_option node.the_row.coded))))
    (λ n. (n.shape, (n.handlers, (n.children, n.parent))))
    (λ p. record { shape = p.0; handlers = p.1.0; children = p.1.1.0; parent = p.1.1.1 })
    (λ _. refl)

-- of variables
abbrev pub coded_vars : Coded Vars
coded_vars = finmap.code (coded_list coded_ℕ) val.the_row.coded

-- of windows
abbrev pub coded_window : Coded Window
coded_window =
    code_by (Option (List ℕ) × (Option WinId × PageId))
    (coded× (coded_option (coded_list coded_ℕ)) (coded× (coded_option win.the_row.coded) page.the_row.coded))
    (λ w. (w.name, (w.opener, w.page))) (λ p. record { name = p.0; opener = p.1.0; page = p.1.1 }) (λ _. refl)

-- of pages
abbrev pub coded_page : Coded Page
coded_page =
    code_by (Url × (WinId × (NodeId × (ActId × (ℕ × List Entry)))))
    (coded× url.the_row.coded (coded× win.the_row.coded (coded× node.the_row.coded (coded× act.the_row.coded (coded× coded_ℕ (coded_list entry.the_row.coded))))))
    (λ g. (g.url, (g.win, (g.root, (g.act, (g.next, g.queue))))))
    (λ p. record { url = p.0; win = p.1.0; root = p.1.1.0; act = p.1.1.1.0; next = p.1.1.1.1.0; queue = p.1.1.1.1.1 })
    (λ _. refl)

-- of activations
abbrev pub coded_act : Coded Activation
coded_act = code_by (Option ActId × Vars) (coded× (coded_option act.the_row.coded) coded_vars) (λ a. (a.parent, a.vars)) (λ p. record { parent = p.0; vars = p.1 }) (λ _. refl)

-- of all windows, pages and activations
abbrev pub coded_windows : Coded Windows
coded_windows =
    code_by (List Window × (List WinId × (List Page × List Activation)))
    (coded× (coded_list coded_window) (coded× (coded_list win.the_row.coded) (coded× (coded_list coded_page) (coded_list coded_act))))
    (λ w. (w.windows, (w.opened, (w.pages, w.acts)))) (λ p. record { windows = p.0; opened = p.1.0; pages = p.1.1.0; acts = p.1.1.1 }) (λ _. refl)

-- of cookies
abbrev pub coded_jar : Coded Jar
coded_jar = finmap.code (coded× (coded_list coded_ℕ) (coded_list coded_ℕ)) (coded_list coded_ℕ)

-- of pending requests
abbrev pub coded_requests : Coded Requests
coded_requests = finmap.code (coded_list coded_ℕ) (coded_list request.the_row.coded)

-- of sets of pages
abbrev pub coded_pages : Coded Pages
coded_pages = finset.code coded_ℕ

-- of stores
abbrev pub coded_stores : Coded Stores
coded_stores =
    code_by (List Node × (Windows × (Jar × (Requests × (ℕ × Pages)))))
    (coded× (coded_list coded_node) (coded× coded_windows (coded× coded_jar (coded× coded_requests (coded× coded_ℕ coded_pages)))))
    (λ s. (s.nodes, (s.windows, (s.jar, (s.requests, (s.mass, s.touched))))))
    (λ p. record { nodes = p.0; windows = p.1.0; jar = p.1.1.0; requests = p.1.1.1.0; mass = p.1.1.1.1.0; touched = p.1.1.1.1.1 })
    (λ _. refl)

-- of tasks
abbrev pub coded_task : Coded Task
coded_task = code_by (PageId × Evaluation) (coded× page.the_row.coded coded_evaluation) (λ t. (t.page, t.running)) (λ p. record { page = p.0; running = p.1 }) (λ _. refl)

-- of states
abbrev pub coded_state : Coded State
coded_state =
    code_by (Stores × (ℕ × (ℕ × (List Task × Bool))))
    (coded× coded_stores (coded× coded_ℕ (coded× coded_ℕ (coded× (coded_list coded_task) coded_bool))))
    (λ s. (s.stores, (s.budget, (s.fuel, (s.tasks, s.quiet)))))
    (λ p. record { stores = p.0; budget = p.1.0; fuel = p.1.1.0; tasks = p.1.1.1.0; quiet = p.1.1.1.1 })
    (λ _. refl)
