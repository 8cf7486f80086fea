-- How many entries all queues have after a change.
use Rattle.std.proofs.Common.{◌≡◌, ℕ, suc, ◌+◌, ◌<◌, ◌≤◌, [], ◌∷◌, ◌++◌, length, drop, map, arith, length-append, length-drop}
use Rattle.std.proofs.lemmas.List.{length-map}
use Rattle.std.proofs.lemmas.List.Sums.{sum_by-set, sum_by_push}
use Rattle.ff_name.specs.declared.urls.Url.{Url}
use Rattle.ff_value.specs.declared.ids.NodeId.{NodeId}
use Rattle.ff_value.specs.declared.ids.PageId.{PageId}
use Rattle.ff_value.specs.declared.ids.WinId.{WinId}
use Rattle.ff_machine.specs.declared.records.Entry.{Entry}
use Rattle.ff_machine.specs.declared.records.Entry.TheVariants.{Wait}
use Rattle.ff_machine.specs.Windows as windows
use Rattle.ff_machine.specs.Windows.{Windows, Page, no_page, page_at, new_page, fill_entry}
use Rattle.ff_tree.specs.declared.tree.Expr.{Expr}
use Rattle.ff_windows.specs.Queues.{count_entries}

-- a page more has no entries
pub page_counted : (w : Windows) (u : Url) (win : WinId) (root : NodeId) → count_entries (windows.with_page w u win root) ≡ count_entries w
page_counted w u win root = omega (arith, sum_by_push (λ (x : Page). length x.queue) w.pages (new_page u win root (windows.next_act w)))

-- an entry more
pub entry_counted : (w : Windows) (p : PageId) (e : Entry) → p.0 < length w.pages → count_entries (windows.with_entry w p e) ≡ count_entries w + 1
entry_counted w p e lives =
    let old = page_at w p in
    omega (arith, sum_by-set (λ (x : Page). length x.queue) w.pages p.0 (record old { queue = old.queue ++ e ∷ [] }) no_page lives, length-append old.queue (e ∷ []))

-- a slot more
pub slot_counted : (w : Windows) (p : PageId) → p.0 < length w.pages → count_entries (windows.with_slot w p) ≡ count_entries w + 1
slot_counted w p lives =
    let old = page_at w p in
    omega (arith, sum_by-set (λ (x : Page). length x.queue) w.pages p.0 (record old { queue = old.queue ++ Wait old.next ∷ []; next = suc old.next }) no_page lives, length-append old.queue (Wait old.next ∷ []))

-- no entry more where a slot is filled
pub filled_counted : (w : Windows) (p : PageId) (slot : ℕ) (body : Expr) → p.0 < length w.pages → count_entries (windows.filled w p slot body) ≡ count_entries w
filled_counted w p slot body lives =
    let old = page_at w p in
    omega (arith, sum_by-set (λ (x : Page). length x.queue) w.pages p.0 (record old { queue = map (fill_entry slot body) old.queue }) no_page lives, length-map old.queue (fill_entry slot body))

-- no entry more where one is taken out
pub popped_counted : (w : Windows) (p : PageId) → p.0 < length w.pages → count_entries (windows.popped w p) ≤ count_entries w
popped_counted w p lives =
    let old = page_at w p in
    omega (arith, sum_by-set (λ (x : Page). length x.queue) w.pages p.0 (record old { queue = drop 1 old.queue }) no_page lives, length-drop 1 old.queue)
