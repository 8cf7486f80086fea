-- The records of all stores of one browser.
use Rattle.std.specs.Prelude.{ℕ, List}
use Rattle.ff_machine.specs.Stores.{Stores}
use Rattle.ff_records.specs.declared.records.NodeRec.{NodeRec}
use Rattle.ff_records.specs.declared.records.CookieRec.{CookieRec}
use Rattle.ff_records.specs.declared.records.AskRec.{AskRec}
use Rattle.ff_records.specs.Records.{WindowsRecs, node_recs, windows_recs, cookie_recs, ask_recs}

-- the records of each store, and the mass that its scripts have made
pub record StoresRecs : Type 0 where
  pub nodes : List NodeRec
  pub windows : WindowsRecs
  pub cookies : List CookieRec
  pub asks : List AskRec
  pub mass : ℕ

abbrev pub stores_recs : Stores → StoresRecs
stores_recs s = record { nodes = node_recs s.nodes; windows = windows_recs s.windows; cookies = cookie_recs s.jar; asks = ask_recs s.requests; mass = s.mass }
