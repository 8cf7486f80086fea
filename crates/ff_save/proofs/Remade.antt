-- Stores that are made of their parts, each of which was made of its records.
use Rattle.std.proofs.Common.{◌≡◌, Option, Some, None, Result, Ok, Err, List, IfOk, sym, ap, ap₂, ◌∙◌}
use Rattle.ff_machine.specs.Alone.{AreNodes, AreRequests}
use Rattle.ff_machine.specs.Net.{Jar, Requests}
use Rattle.ff_machine.specs.Nodes.{Node}
use Rattle.ff_machine.specs.Stores.{Stores}
use Rattle.ff_machine.specs.Windows.{Windows}
use Rattle.ff_records.specs.Records.{node_recs, windows_recs, cookie_recs, ask_recs}
use Rattle.ff_records.specs.Restored.{Restores}
use Rattle.ff_stores.specs.Restored.{Parts, AreUntouched, parts_of}
use Rattle.ff_saved_rows.specs.Recs.{StoresRecs, stores_recs}
use Rattle.ff_save.proofs.Asked.{same_requests}
use Rattle.ff_save.proofs.Stored.{same_nodes, same_windows, same_cookies}

module _ (recs : StoresRecs) where
  module _ (nodes : List Node) (windows : Windows) (jar : Jar) (requests : Requests) (are_nodes : AreNodes nodes) (are_requests : AreRequests requests)
      (nodes_have : node_recs nodes ≡ recs.nodes) (windows_have : windows_recs windows ≡ recs.windows) (jar_has : cookie_recs jar ≡ recs.cookies) (requests_have : ask_recs requests ≡ recs.asks) where
    recs_are : (s : Stores) → parts_of s ≡ record { nodes = nodes; windows = windows; jar = jar; requests = requests; mass = recs.mass } → stores_recs s ≡ recs
    recs_are s same =
        ap (λ (p : Parts). record { nodes = node_recs p.nodes; windows = windows_recs p.windows; cookies = cookie_recs p.jar; asks = ask_recs p.requests; mass = p.mass }) same
        ∙ ap (λ ns. record { nodes = ns; windows = windows_recs windows; cookies = cookie_recs jar; asks = ask_recs requests; mass = recs.mass }) nodes_have
        ∙ ap (λ ws. record { nodes = recs.nodes; windows = ws; cookies = cookie_recs jar; asks = ask_recs requests; mass = recs.mass }) windows_have
        ∙ ap (λ cs. record { nodes = recs.nodes; windows = recs.windows; cookies = cs; asks = ask_recs requests; mass = recs.mass }) jar_has
        ∙ ap (λ xs. record { nodes = recs.nodes; windows = recs.windows; cookies = recs.cookies; asks = xs; mass = recs.mass }) requests_have

    parts_are : (s : Stores) → AreUntouched s → stores_recs s ≡ recs → parts_of s ≡ record { nodes = nodes; windows = windows; jar = jar; requests = requests; mass = recs.mass }
    parts_are s is same =
        let ns = same_nodes s.nodes nodes is.0.nodes are_nodes (ap (λ (r : StoresRecs). r.nodes) same ∙ sym nodes_have) in
        let ws = same_windows s.windows windows (ap (λ (r : StoresRecs). r.windows) same ∙ sym windows_have) in
        let js = same_cookies s.jar jar (ap (λ (r : StoresRecs). r.cookies) same ∙ sym jar_has) in
        let rs = same_requests s.requests requests is.0.requests are_requests (ap (λ (r : StoresRecs). r.asks) same ∙ sym requests_have) in
        let mass = ap (λ (r : StoresRecs). r.mass) same in
        ap₂ (λ a b. record { nodes = a; windows = b; jar = s.jar; requests = s.requests; mass = s.mass }) ns ws
        ∙ ap₂ (λ a b. record { nodes = nodes; windows = windows; jar = a; requests = b; mass = s.mass }) js rs
        ∙ ap (λ a. record { nodes = nodes; windows = windows; jar = jar; requests = requests; mass = a }) mass

    remade : (answer : Option Stores) → Restores AreUntouched parts_of (record { nodes = nodes; windows = windows; jar = jar; requests = requests; mass = recs.mass }) answer → Restores AreUntouched stores_recs recs answer
    remade None none = λ s is same. none s is (parts_are s is same)
    remade (Some s) some = (some.0, recs_are s some.1)

    pub remade_ok : {E : Type 0} (answer : Result (Option Stores) E) → IfOk answer (Restores AreUntouched parts_of (record { nodes = nodes; windows = windows; jar = jar; requests = requests; mass = recs.mass })) → IfOk answer (Restores AreUntouched stores_recs recs)
    remade_ok (Ok answer) made = remade answer made
    remade_ok (Err refused) made = tt
