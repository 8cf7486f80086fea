-- Slots that are filled, scripts that are taken out, and windows that close keep stores valid.
use Rattle.std.proofs.Common.{◌≡◌, ℕ, ◌-◌, ◌<◌, length, drop, map, refl, arith, length-drop}
use Rattle.std.proofs.lemmas.List.{length-map}
use Rattle.ff_tree.specs.declared.tree.Expr.{Expr}
use Rattle.ff_tree.specs.Spelled.{IsWellSpelledExpr}
use Rattle.ff_value.specs.declared.ids.PageId.{PageId}
use Rattle.ff_value.specs.declared.ids.WinId.{WinId}
use Rattle.ff_machine.specs.Windows as windows
use Rattle.ff_machine.specs.Windows.{page_at, fill_entry}
use Rattle.ff_machine.specs.Stores as stores
use Rattle.ff_machine.specs.Stores.{Stores}
use Rattle.ff_machine.specs.Alone.{IsQueue}
use Rattle.ff_machine.specs.References.{made}
use Rattle.ff_machine.specs.Valid.{IsStores}
use Rattle.ff_machine.proofs.Queues.{with_filled, without_first}
use Rattle.ff_machine.proofs.WindowChanges.{window_closed}
use Rattle.ff_laws.specs.Keeps.{Keeps}
use Rattle.ff_laws.proofs.Growing.{as_many}
use Rattle.ff_laws.proofs.Queues.{page_changed}

-- Filling.

-- a slot that is filled keeps stores valid
pub filled_valid : (s : Stores) (p : PageId) (slot : ℕ) (body : Expr) → IsStores s → p.0 < length s.windows.pages → IsWellSpelledExpr body → Keeps s (stores.fill_slot s p slot body)
filled_valid s p slot body valid lives spelled =
    let old = page_at s.windows p in
    let was : IsQueue old.next old.queue = (valid.windows.pages.each p.0 windows.no_page lives).queue in
    let size : length (map (fill_entry slot body) old.queue) ≡ length old.queue = length-map old.queue (fill_entry slot body) in
    page_changed s p (record old { queue = map (fill_entry slot body) old.queue }) valid lives (record {
      same = record { url = refl; win = refl; root = refl; act = refl };
      queue = with_filled old.next slot old.queue body was spelled;
      entries = omega (arith, size, valid.queued.entries);
      slots = omega (arith, valid.queued.slots);
    })

-- Taking out.

-- a queue without its first entry keeps stores valid
pub popped_valid : (s : Stores) (p : PageId) → IsStores s → p.0 < length s.windows.pages → Keeps s (record s { windows = windows.popped s.windows p })
popped_valid s p valid lives =
    let old = page_at s.windows p in
    let was : IsQueue old.next old.queue = (valid.windows.pages.each p.0 windows.no_page lives).queue in
    let size : length (drop 1 old.queue) ≡ length old.queue - 1 = length-drop 1 old.queue in
    page_changed s p (record old { queue = drop 1 old.queue }) valid lives (record {
      same = record { url = refl; win = refl; root = refl; act = refl };
      queue = without_first old.next old.queue was;
      entries = omega (arith, size, valid.queued.entries);
      slots = omega (arith, valid.queued.slots);
    })

-- Closing.

-- a window that closes keeps stores valid
pub closed_valid : (s : Stores) (w : WinId) → IsStores s → Keeps s (stores.close_window s w).after
closed_valid s w valid =
    record {
      stores = record {
        nodes = valid.nodes;
        windows = window_closed s.windows w valid.windows;
        jar = valid.jar;
        requests = valid.requests;
        refer = record { nodes = valid.refer.nodes; pages = valid.refer.pages; acts = valid.refer.acts; requests = valid.refer.requests; touched = valid.refer.touched };
        rooted = valid.rooted;
        queued = valid.queued;
        light = valid.light;
      };
      grows = as_many (made s);
    }
