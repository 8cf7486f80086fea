-- A page that was made and is shown keeps stores valid, as the calls of the stores below say them.
use Rattle.std.proofs.Common.{◌≡◌, ℕ, ◌<◌, true, Option, None, List, [], length, sym}
use Rattle.std.specs.Prelude.{nat_lt}
use Rattle.std.specs.Option.{ForSome}
use Rattle.std.specs.Str.{IsUtf8}
use Rattle.std.specs.List.{AllByRecursion}
use Rattle.ff_name.specs.Address.{IsWellSpelled}
use Rattle.ff_name.specs.declared.urls.Url.{Url}
use Rattle.ff_name.specs.declared.urls.Url.TheVariants as url
use Rattle.ff_tree.specs.Spelled.{IsWellSpelledDoc}
use Rattle.ff_tree.specs.declared.tree.Doc.{Doc}
use Rattle.ff_value.specs.declared.ids.ActId.{ActId}
use Rattle.ff_value.specs.declared.ids.NodeId.{NodeId}
use Rattle.ff_value.specs.declared.ids.PageId.{PageId}
use Rattle.ff_value.specs.declared.ids.WinId.{WinId}
use Rattle.ff_machine.specs.declared.limits.TheConstants.{MOST_WINDOWS}
use Rattle.ff_machine.specs.Documents.{laid_page, with_tree}
use Rattle.ff_machine.specs.Nodes.{Node, next_node, room_fault, has_room}
use Rattle.ff_machine.specs.Windows.{Windows, next_page, next_act, next_win, has_page_room, has_window_room, is_open, page_shown, with_page, with_window}
use Rattle.ff_machine.specs.Stores.{Stores, page_tree}
use Rattle.ff_machine.specs.Valid.{IsStores}
use Rattle.ff_laws.proofs.Loading.{shown_valid, opened_valid}
use Rattle.ff_stores.proofs.Opening.{open_lives}
use Rattle.ff_stores.proofs.Showing.{both_rooms, window_rooms}

-- a page that a window shows
pub shown_stores : (s : Stores) (w : WinId) (u : Url) (docs : List Doc) (page : PageId) (act : ActId) (root : NodeId) (all : List Node) (ws : Windows)
    → IsStores s → is_open s.windows w ≡ true → IsWellSpelled u → AllByRecursion IsWellSpelledDoc docs → has_page_room s.windows ≡ true
    → page ≡ next_page s.windows → act ≡ next_act s.windows → root ≡ next_node s.nodes
    → room_fault s.nodes (laid_page page act docs).size ≡ None → all ≡ with_tree s.nodes (laid_page page act docs) → ws ≡ page_shown (with_page s.windows u w root) w (next_page s.windows)
    → IsStores (record s { nodes = all; windows = ws })
shown_stores s w u docs page act root all ws valid opened spelled docs_spelled free page_is act_is root_is none all_is ws_is =
    let room = both_rooms (has_page_room s.windows) (has_room s.nodes (page_tree s docs).size) free (rw act_is at none) in
    rw (ws_is, all_is, page_is, act_is, root_is) ((shown_valid s u docs valid spelled docs_spelled (sym room) w (open_lives s w valid opened)).stores)

-- and so does a window that was opened with a blank page
pub opened_stores : (s : Stores) (name : Option (List ℕ)) (opener : Option WinId) (docs : List Doc) (page : PageId) (act : ActId) (root : NodeId) (all : List Node) (ws : Windows)
    → IsStores s → ForSome name IsUtf8 → ForSome opener (λ o. o.0 < length s.windows.windows) → has_window_room s.windows ≡ true → docs ≡ []
    → page ≡ next_page s.windows → root ≡ next_node s.nodes
    → room_fault s.nodes (laid_page page act docs).size ≡ None → all ≡ with_tree s.nodes (laid_page page act docs)
    → ws ≡ with_window (with_page s.windows url.Blank (next_win s.windows) root) name opener (next_page s.windows) → IsStores (record s { nodes = all; windows = ws })
opened_stores s name opener docs page act root all ws valid named by free blank page_is root_is none all_is ws_is =
    let room = window_rooms (has_page_room s.windows) (nat_lt (length s.windows.opened) MOST_WINDOWS) (has_room s.nodes (page_tree s []).size) free (rw blank at none) in
    rw (ws_is, all_is, blank, page_is, root_is) ((opened_valid s name opener valid named by (sym room)).stores)
