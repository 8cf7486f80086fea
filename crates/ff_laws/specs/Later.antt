-- How later stores stand to earlier ones: numbers stay, and nothing that has gone comes back.
use Rattle.std.specs.Prelude.{◌≡◌, ◌<◌, ◌≤◌, false, length}
use Rattle.ff_value.specs.declared.ids.WinId.{WinId}
use Rattle.ff_value.specs.declared.ids.PageId.{PageId}
use Rattle.ff_machine.specs.Windows.{Windows, Page, page_at, is_open, is_live}
use Rattle.ff_machine.specs.Stores.{Stores}

-- a page's address, window, root and activation are fixed when it is made
pub record IsSamePage (before after : Page) : Type 0 where
  pub url : after.url ≡ before.url
  pub win : after.win ≡ before.win
  pub root : after.root ≡ before.root
  pub act : after.act ≡ before.act

-- windows, pages and activations keep their numbers; a closed window stays closed, and a page that
-- isn't live doesn't become live
pub record AreLaterWindows (before after : Windows) : Type 0 where
  pub wins : length before.windows ≤ length after.windows
  pub pages : length before.pages ≤ length after.pages
  pub acts : length before.acts ≤ length after.acts
  pub same : (p : PageId) → p.0 < length before.pages → IsSamePage (page_at before p) (page_at after p)
  pub closed : (w : WinId) → w.0 < length before.windows → is_open before w ≡ false → is_open after w ≡ false
  pub dead : (p : PageId) → p.0 < length before.pages → is_live before p ≡ false → is_live after p ≡ false

-- the same of all stores; nodes keep their numbers too, and the mass doesn't fall
pub record AreLater (before after : Stores) : Type 0 where
  pub nodes : length before.nodes ≤ length after.nodes
  pub windows : AreLaterWindows before.windows after.windows
  pub mass : before.mass ≤ after.mass
