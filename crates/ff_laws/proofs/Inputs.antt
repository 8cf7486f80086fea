-- An input keeps stores valid.
use Rattle.std.proofs.Common.{◌≡◌, ℕ, ◌<◌, ◌≤◌, Bool, true, false, cond, Option, Some, None, List, [], ◌∷◌, map, length, slice_get, All, refl, subst, arith}
use Rattle.std.specs.Prelude.{⊤}
use Rattle.std.specs.Str.{IsUtf8}
use Rattle.std.specs.List.{AllByRecursion}
use Rattle.std.specs.FinMap as finmap
use Rattle.std.proofs.lemmas.Option.{get_or_from_slice_get, slice_get_within}
use Rattle.std.proofs.lemmas.List.Elements.{All-filter, All-weaker}
use Rattle.ff_confinement.specs.Turns.{Stepped}
use Rattle.ff_name.specs.Spelling.{IsDomain}
use Rattle.ff_name.specs.Address.{IsWellSpelled}
use Rattle.ff_name.specs.declared.limits.TheConstants.{MOST_DEPTH}
use Rattle.ff_name.specs.declared.urls.Url.{Url}
use Rattle.ff_name.specs.declared.urls.Url.TheVariants as url
use Rattle.ff_tree.specs.Spelled.{IsSpelledDoc, IsWellSpelledDoc, IsWellSpelledExpr, most, doc_depth}
use Rattle.ff_tree.specs.declared.tree.Doc.{Doc}
use Rattle.ff_value.specs.Spelled.{IsCookieOp, IsSpelledResp, IsWellSpelledResp, IsWellSpelledAct, IsWellSpelledInput}
use Rattle.ff_value.specs.Weight.{resp_weight}
use Rattle.ff_value.specs.declared.ids.WinId.{WinId}
use Rattle.ff_value.specs.declared.ids.NodeId.{NodeId}
use Rattle.ff_value.specs.declared.input.Act.{Act}
use Rattle.ff_value.specs.declared.input.Act.TheVariants as act
use Rattle.ff_value.specs.declared.input.Input.{Input}
use Rattle.ff_value.specs.declared.output.Out.{Out}
use Rattle.ff_value.specs.declared.reply.Resp.{Resp}
use Rattle.ff_value.specs.declared.reply.Resp.TheVariants as resp
use Rattle.ff_machine.specs.declared.kinds.Kind.{Kind}
use Rattle.ff_machine.specs.declared.kinds.Kind.TheVariants as kind
use Rattle.ff_machine.specs.declared.records.Dst.{Dst}
use Rattle.ff_machine.specs.declared.records.Dst.TheVariants as dst
use Rattle.ff_machine.specs.declared.records.Pending.{Pending}
use Rattle.ff_machine.specs.declared.records.Shape.{Shape}
use Rattle.ff_machine.specs.declared.records.Shape.TheVariants as shape
use Rattle.ff_machine.specs.Kinds.{kind_word}
use Rattle.ff_machine.specs.Shapes.{url_of}
use Rattle.ff_machine.specs.Nodes as nodes
use Rattle.ff_machine.specs.Nodes.{Node, no_node, node_at, Walk}
use Rattle.ff_machine.specs.Windows.{no_page, no_window, page_at, window_at, is_open, is_live}
use Rattle.ff_machine.specs.Net.{asked, answered}
use Rattle.ff_machine.specs.Stores as stores
use Rattle.ff_machine.specs.Stores.{Stores, may_weigh}
use Rattle.ff_machine.specs.State.{State, Step, nothing, with_stores, if_room, given}
use Rattle.ff_machine.specs.Inputs.{user_window, user_node, page_in, goes, links, closes, types, clicks, call_handlers, load_reply, slot_body, deliver_to, deliver, entries_of, receive, perform, begin}
use Rattle.ff_machine.specs.Alone.{IsShape, IsNode, IsWindow, IsPending}
use Rattle.ff_machine.specs.References.{made, PageRefers, DstRefers}
use Rattle.ff_machine.specs.Valid.{IsStores}
use Rattle.ff_laws.specs.Keeps.{Keeps, KeepsIfMade}
use Rattle.ff_laws.proofs.Growing.{dst_refers_grows}
use Rattle.ff_laws.proofs.Answering.{answered_valid}
use Rattle.ff_laws.proofs.Asking.{PendingRefers, asked_each}
use Rattle.ff_laws.proofs.Cookies.{put_cookies_valid}
use Rattle.ff_laws.proofs.Loading.{load_valid, go_valid, opens_valid}
use Rattle.ff_laws.proofs.Readings.{walked_below}
use Rattle.ff_laws.proofs.Simple.{at_any, weighed_valid}
use Rattle.ff_laws.proofs.Slots.{filled_valid, closed_valid}
use Rattle.ff_laws.proofs.Starting.{kept, kept_twice, null_spelled}
use Rattle.ff_laws.proofs.Texts.{with_text_valid}

-- an item that was got has what all have
pub got_item : {X : Type 0} (P : X → Type 0) (xs : List X) (i : ℕ) (x : X) → slice_get xs i ≡ Some x → All P xs → P x
got_item P xs i x e all = subst P (get_or_from_slice_get xs i x x e) (all i x (slice_get_within xs i x e))

-- a step that is made where there is room keeps the stores of the state
pub room_keeps : (s : State) (step : Option (Stepped Out Stores)) → IsStores s.stores → KeepsIfMade s.stores step → Keeps s.stores (if_room s step).after.stores
room_keeps s None valid h = kept s.stores valid
room_keeps s (Some step) valid h = h

-- what follows where there is something keeps them
pub given_keeps : {X : Type 0} (s : State) (x : Option X) (f : X → Step) → IsStores s.stores → ((y : X) → x ≡ Some y → Keeps s.stores (f y).after.stores) → Keeps s.stores (given s x f).after.stores
given_keeps s None f valid h = kept s.stores valid
given_keeps s (Some x) f valid h = h x refl

-- one of two steps keeps them
pub one_step_keeps : (s : State) (b : Bool) (x y : Step) → (b ≡ true → Keeps s.stores x.after.stores) → Keeps s.stores y.after.stores → Keeps s.stores (cond b x y).after.stores
one_step_keeps s true x y g h = g refl
one_step_keeps s false x y g h = h

-- What is read off valid stores.

-- the address of a valid shape is well spelled
pub shape_url : (x : Shape) (u : Url) → IsShape x → url_of x ≡ Some u → IsWellSpelled u
shape_url (shape.Link x at text) u is e = let same : at ≡ u = cc in subst IsWellSpelled same is.1
shape_url (shape.Src x started at) u is e = let same : at ≡ u = cc in subst IsWellSpelled same is.1
shape_url other u is e = cc

-- and so is that of no node, which has none
pub no_url : (u : Url) → url_of (shape.Div []) ≡ Some u → IsWellSpelled u
no_url u e = cc

-- the documents of a well spelled reply are well spelled
pub docs_spelled : (docs : List Doc) → AllByRecursion IsSpelledDoc docs → most (map doc_depth docs) ≤ MOST_DEPTH → AllByRecursion IsWellSpelledDoc docs
docs_spelled [] is deep = tt
docs_spelled (d ∷ ds) is deep = (record { spelled = is.0; shallow = omega (arith, deep) }, docs_spelled ds is.1 (omega (arith, deep)))

-- the cookies of a well spelled reply are well spelled
pub cookies_spelled : (r : Resp) → IsSpelledResp r → AllByRecursion IsCookieOp (entries_of r)
cookies_spelled (resp.Page cookies docs) is = is.0
cookies_spelled (resp.Script cookies body) is = is.0
cookies_spelled (resp.Data cookies text) is = is.0

-- a reply that counts, if one does, is well spelled
abbrev pub IsReply : Option Resp → Type 0
IsReply None = ⊤
IsReply (Some r) = IsWellSpelledResp r

body_spelled : (reply : Option Resp) → IsReply reply → IsWellSpelledExpr (slot_body reply)
body_spelled (Some (resp.Script cookies body)) is = let deep = is.shallow in record { spelled = is.spelled.1; shallow = omega (arith, deep) }
body_spelled other is = null_spelled

module _ (s : State) (valid : IsStores s.stores) where
  -- the window that the user points at was made
  pub window_there : (at : ℕ) (w : WinId) → user_window s at ≡ Some w → w.0 < length s.stores.windows.windows
  window_there at w e = got_item (λ v. v.0 < length s.stores.windows.windows) s.stores.windows.opened at w e valid.windows.opened.there

  -- and so was the node
  pub node_there : (w : WinId) (k : Kind) (n : ℕ) (m : NodeId) → w.0 < length s.stores.windows.windows → user_node s w k n ≡ Some m → m.0 < length s.stores.nodes
  node_there w k n m there e =
      let shows : IsWindow (length s.stores.windows.windows) (length s.stores.windows.pages) (window_at s.stores.windows w) = valid.windows.windows w.0 no_window there in
      let page : PageRefers (made s.stores) (page_at s.stores.windows (page_in s w)) = valid.refer.pages (page_in s w).0 no_page shows.page in
      let root = (page_at s.stores.windows (page_in s w)).root in
      got_item (λ c. c.0 < length s.stores.nodes) (nodes.of_word s.stores.nodes root (kind_word k)) n m e
      (All-filter _ (λ c. c.0 < length s.stores.nodes) (Walk s.stores.nodes root) (walked_below s.stores.nodes valid.nodes.trees root page.root))

  link_spelled : (m : NodeId) (u : Url) → url_of (node_at s.stores.nodes m).shape ≡ Some u → IsWellSpelled u
  link_spelled m =
      at_any (λ (node : Node). (u : Url) → url_of node.shape ≡ Some u → IsWellSpelled u) s.stores.nodes m.0 no_node
      (All-weaker IsNode (λ (node : Node). (u : Url) → url_of node.shape ≡ Some u → IsWellSpelled u) (λ node h u e. shape_url node.shape u h.shape e) s.stores.nodes valid.nodes.each) no_url

  load_keeps : (w : WinId) (u : Url) (reply : Option Resp) → w.0 < length s.stores.windows.windows → IsWellSpelled u → IsReply reply → Keeps s.stores (load_reply s w u reply).after.stores
  load_keeps w u (Some (resp.Page cookies docs)) there spelled is =
      let deep = is.shallow in
      one_step_keeps s (is_open s.stores.windows w) (if_room s (stores.load s.stores w u docs)) (nothing s)
      (λ shown. room_keeps s (stores.load s.stores w u docs) valid (load_valid s.stores w u docs valid there spelled (docs_spelled docs is.spelled.1 (omega (arith, deep))))) (kept s.stores valid)
  load_keeps w u other there spelled is = kept s.stores valid

  deliver_keeps : (u : Url) (reply : Option Resp) (d : Dst) → IsWellSpelled u → IsReply reply → DstRefers (made s.stores) d → Keeps s.stores (deliver_to s u reply d).after.stores
  deliver_keeps u reply (dst.Window w) spelled is there = load_keeps w u reply there spelled is
  deliver_keeps u reply (dst.Slot page slot) spelled is there =
      one_step_keeps s (is_live s.stores.windows page) _ (nothing s) (λ live. filled_valid s.stores page slot (slot_body reply) valid there (body_spelled reply is)) (kept s.stores valid)
  deliver_keeps u reply (dst.Call page code) spelled is there = one_step_keeps s (is_live s.stores.windows page) _ (nothing s) (λ live. kept s.stores valid) (kept s.stores valid)

receive_keeps : (s : State) (domain : List ℕ) (r : Resp) (pending : Pending) → IsStores s.stores → IsDomain domain → IsWellSpelledResp r → IsPending pending → DstRefers (made s.stores) pending.dst
    → Keeps s.stores (receive s domain r pending).after.stores
receive_keeps s domain r pending valid is_domain is asked_is refers =
    let heavier = stores.weighed s.stores (resp_weight r) in
    let counted = stores.put_cookies heavier domain (entries_of r) in
    let t = with_stores s counted in
    one_step_keeps s (may_weigh s.stores (resp_weight r)) (deliver t domain pending (Some r)) (deliver s domain pending None)
    (λ may.
    let first = weighed_valid s.stores (resp_weight r) valid may in
    let second = put_cookies_valid heavier domain (entries_of r) first.stores is_domain (cookies_spelled r is.spelled) in
    let both = kept_twice s.stores heavier counted first second in
    kept_twice s.stores counted (deliver t domain pending (Some r)).after.stores both
    (deliver_keeps t both.stores (url.At domain pending.uri) (Some r) pending.dst (is_domain, asked_is.uri) is (dst_refers_grows (made s.stores) (made counted) both.grows pending.dst refers)))
    (deliver_keeps s valid (url.At domain pending.uri) None pending.dst (is_domain, asked_is.uri) tt refers)

reply_keeps : (s : State) (domain : List ℕ) (k : ℕ) (r : Resp) (o : Option Pending) → slice_get (asked s.stores.requests domain) k ≡ o → IsStores s.stores → IsDomain domain → IsWellSpelledResp r
    → Keeps s.stores (given s (stores.taken_out s.stores domain k o) (λ t. receive (with_stores s t.1) domain r t.0)).after.stores
reply_keeps s domain k r None e valid is_domain is = kept s.stores valid
reply_keeps s domain k r (Some pending) e valid is_domain is =
    let t : Stores = record s.stores { requests = answered s.stores.requests domain k } in
    let first = answered_valid s.stores domain k valid in
    let asks = asked s.stores.requests domain in
    kept_twice s.stores t (receive (with_stores s t) domain r pending).after.stores first
    (receive_keeps (with_stores s t) domain r pending first.stores is_domain is
    (got_item IsPending asks k pending e (asked_each s.stores.requests domain (finmap.get s.stores.requests domain) refl valid.requests))
    (got_item (PendingRefers (made s.stores)) asks k pending e (valid.refer.requests domain)))

typed_keeps : (s : State) (w : WinId) (m : NodeId) (text : List ℕ) → IsStores s.stores → m.0 < length s.stores.nodes → IsUtf8 text
    → Keeps s.stores (given s (stores.type_text s.stores m text) (λ t. nothing (call_handlers (with_stores s t) w m))).after.stores
typed_keeps s w m text valid there is = by (may_weigh s.stores (length text)) refl where
  by : (b : Bool) → may_weigh s.stores (length text) ≡ b → Keeps s.stores (given s (cond b (Some (stores.with_text s.stores m text)) None) (λ t. nothing (call_handlers (with_stores s t) w m))).after.stores
  by true may = with_text_valid s.stores m text valid there is may
  by false may = kept s.stores valid

-- a well spelled act keeps stores valid
pub perform_keeps : (s : State) (a : Act) → IsStores s.stores → IsWellSpelledAct a → Keeps s.stores (perform s a).after.stores
perform_keeps s (act.Opens u) valid is = opens_valid s.stores u valid is
perform_keeps s (act.Goes at u) valid is =
    given_keeps s (user_window s at) (goes s u) valid (λ w e. room_keeps s (stores.go s.stores w u) valid (go_valid s.stores w u valid (window_there s valid at w e) is.1))
perform_keeps s (act.Links at n) valid is =
    given_keeps s (user_window s at) (links s n) valid (λ w e.
    given_keeps s (user_node s w kind.Link n) _ valid (λ m f.
    given_keeps s (url_of (node_at s.stores.nodes m).shape) (λ u. goes s u w) valid (λ u g.
    room_keeps s (stores.go s.stores w u) valid (go_valid s.stores w u valid (window_there s valid at w e) (link_spelled s valid m u g)))))
perform_keeps s (act.Closes at) valid is = given_keeps s (user_window s at) (closes s) valid (λ w e. closed_valid s.stores w valid)
perform_keeps s (act.Types at n text) valid is =
    given_keeps s (user_window s at) (types s n text) valid (λ w e.
    given_keeps s (user_node s w kind.TextBox n) _ valid (λ m f. typed_keeps s w m text valid (node_there s valid w kind.TextBox n m (window_there s valid at w e) f) is.2))
perform_keeps s (act.Clicks at n) valid is =
    given_keeps s (user_window s at) (clicks s n) valid (λ w e.
    given_keeps s (user_node s w kind.Button n) _ valid (λ m f. kept s.stores valid))
perform_keeps s (act.Replies domain k r) valid is = reply_keeps s domain k r (slice_get (asked s.stores.requests domain) k) refl valid is.0 is.2

-- taking a well spelled input keeps stores valid
pub begin_keeps : (s : State) (i : Input) → IsStores s.stores → IsWellSpelledInput i → Keeps s.stores (begin s i).after.stores
unfolding begin
begin_keeps s i valid is = perform_keeps (record s { fuel = s.budget; quiet = false }) i.act valid is
