-- Where more scripts were started than there are entries and slots, one more of each fits.
use Rattle.std.proofs.Common.{◌<◌, length, sum_by, arith}
use Rattle.std.proofs.lemmas.List.Sums.{get_or-le-sum_by}
use Rattle.ff_value.specs.declared.ids.PageId.{PageId}
use Rattle.ff_machine.specs.declared.limits.TheConstants.{MOST_ENTRIES, MOST_SLOTS}
use Rattle.ff_machine.specs.Windows.{Page, no_page, page_at}
use Rattle.ff_machine.specs.Stores.{Stores}
use Rattle.ff_machine.specs.Valid.{IsStores, count_started}
use Rattle.ff_laws.proofs.Queues.{few_started}
use Rattle.ff_laws.proofs.Starting.{HasSlack}

-- more scripts were started than there are entries and slots
abbrev pub Spares : Stores → Type 0
Spares s = (sum_by (λ p. length p.queue) s.windows.pages < count_started s.nodes) × (sum_by (λ p. p.next) s.windows.pages < count_started s.nodes)

-- so there is room for one of each by what was started
pub slack : (s : Stores) → Spares s → HasSlack s
slack s more = record { entries = omega (arith, more.0); slots = omega (arith, more.1) }

-- and in the queues of all pages together
pub entries_fit : (s : Stores) → IsStores s → Spares s → sum_by (λ p. length p.queue) s.windows.pages < MOST_ENTRIES
entries_fit s valid more = let few = few_started s.nodes in omega (arith, more.0, few, valid.nodes.few)

-- and among the slots of each page
pub slots_fit : (s : Stores) (p : PageId) → IsStores s → p.0 < length s.windows.pages → Spares s → (page_at s.windows p).next < MOST_SLOTS
slots_fit s p valid lives more =
    let few = few_started s.nodes in
    let least = get_or-le-sum_by (λ (x : Page). x.next) s.windows.pages p.0 no_page lives in
    omega (arith, more.1, few, least, valid.nodes.few)
