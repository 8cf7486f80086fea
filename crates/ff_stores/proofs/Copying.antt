-- How many cells are copied by a page that is made and shown.
use Rattle.std.proofs.Common.{◌≡◌, ◌*◌, ℕ, List, subst, arith}
use Rattle.ff_contract.specs.Rises.{RisesBy}
use Rattle.ff_tree.specs.declared.tree.Doc.{Doc}
use Rattle.ff_value.specs.declared.ids.ActId.{ActId}
use Rattle.ff_value.specs.declared.ids.PageId.{PageId}
use Rattle.ff_machine.specs.Documents.{laid_page}
use Rattle.ff_machine.specs.Windows.{next_page, next_act}
use Rattle.ff_machine.specs.Stores.{Stores}
use Rattle.ff_stores.specs.Copied.{showing}

-- its nodes are copied, and then the page and its window
pub shown_copies : (s : Stores) (docs : List Doc) (page : PageId) (act : ActId) (start laid shown : ℕ) → page ≡ next_page s.windows → act ≡ next_act s.windows → RisesBy (47 * (laid_page page act docs).size) start laid → RisesBy 47 laid shown → RisesBy (showing s docs) start shown
shown_copies s docs page act start laid shown page_is act_is by more =
    let at_page = subst (λ (p : PageId). RisesBy (47 * (laid_page p act docs).size) start laid) page_is by in
    let at_act = subst (λ (a : ActId). RisesBy (47 * (laid_page (next_page s.windows) a docs).size) start laid) act_is at_page in
    omega (arith, at_act, more)
