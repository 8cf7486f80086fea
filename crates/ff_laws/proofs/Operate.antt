-- Each operator keeps valid stores, and gives a valid value for valid operands.
use Rattle.std.proofs.Common.{◌≡◌, ℕ, ◌<◌, Bool, true, false, cond, ◌&&◌, ◌==◌, pos, nat_abs, Option, Some, None, Err, List, [], ◌∷◌, length, All, FitsSigned, arith, refl, subst, length-append}
use Rattle.std.specs.Int.{w64}
use Rattle.std.specs.Option.{ForSome}
use Rattle.std.specs.Str.{IsUtf8}
use Rattle.std.proofs.lemmas.Bool.{and_parts, eqb-true}
use Rattle.std.proofs.lemmas.Int.{fits_signed_from_abs}
use Rattle.std.proofs.lemmas.List.Elements.{All-filter}
use Rattle.ff_name.specs.Spelling.{IsDomain}
use Rattle.ff_name.specs.Address.{IsWellSpelled, printed}
use Rattle.ff_name.specs.declared.urls.Url.{Url}
use Rattle.ff_name.specs.declared.urls.Url.TheVariants as url
use Rattle.ff_tree.specs.declared.op.Op.{Op}
use Rattle.ff_tree.specs.declared.op.Op.TheVariants as op
use Rattle.ff_value.specs.declared.fault.Fault.TheVariants as fault
use Rattle.ff_value.specs.declared.ids.WinId.{WinId}
use Rattle.ff_value.specs.declared.ids.PageId.{PageId}
use Rattle.ff_value.specs.declared.ids.NodeId.{NodeId}
use Rattle.ff_value.specs.declared.value.Code.{Code}
use Rattle.ff_value.specs.declared.value.Val.{Val}
use Rattle.ff_value.specs.declared.value.Val.TheVariants as val
use Rattle.ff_machine.specs.declared.records.Dst.TheVariants as dst
use Rattle.ff_machine.specs.Shapes.{kind_of, text_of}
use Rattle.ff_machine.specs.Nodes as nodes
use Rattle.ff_machine.specs.Nodes.{Node, no_node, node_at, children, Walk}
use Rattle.ff_machine.specs.Windows as windows
use Rattle.ff_machine.specs.Windows.{Page, Window, no_page, no_window, page_at, window_at, is_open}
use Rattle.ff_machine.specs.Net as net
use Rattle.ff_machine.specs.Stores as stores
use Rattle.ff_machine.specs.Stores.{Stores}
use Rattle.ff_machine.specs.Operators as operators
use Rattle.ff_machine.specs.Operators.{operate, does_or_limit}
use Rattle.ff_machine.specs.Alone.{IsShape, IsPage, IsWindow}
use Rattle.ff_machine.specs.References.{made, PageRefers}
use Rattle.ff_machine.specs.Valid.{IsCode, IsVal, IsStores}
use Rattle.ff_machine.proofs.Walks.{few_children}
use Rattle.ff_laws.specs.Keeps.{Keeps}
use Rattle.ff_laws.specs.Reduced.{KeepsUnlessFault}
use Rattle.ff_laws.proofs.Asking.{sent_valid}
use Rattle.ff_laws.proofs.Cookies.{jar_changed, put_valid, deleted_valid}
use Rattle.ff_laws.proofs.Inserting.{inserted_valid}
use Rattle.ff_laws.proofs.Loading.{if_room, opened_valid, go_valid}
use Rattle.ff_laws.proofs.Operating.{value_given, unless_fault, or_limit, one_outcome, with_open, with_url, applied, on_none, on_str, on_strs, on_win, on_win_str, on_node, on_node_str, on_node_num, on_node_str_num, on_nodes_num, on_node_code, on_strs_code}
use Rattle.ff_laws.proofs.Slots.{closed_valid}
use Rattle.ff_laws.proofs.Starting.{kept, kept_twice}
use Rattle.ff_machine.proofs.Changes.{takes_one}
use Rattle.ff_laws.proofs.Texts.{text_may, with_text_valid, handler_added_valid}
use Rattle.ff_laws.proofs.Readings.{url_domain, shape_text, found_item, walked_below, item_below, or_null_valid, cookie_of}
use Rattle.ff_laws.proofs.LaterOperators.{made as made_weighs, apply as apply_weighs}
use Rattle.ff_machine.proofs.Pure.{made_valid, apply_valid}
use Rattle.ff_machine.proofs.Utf8.{IsUtf8-kind_word, IsUtf8-printed}

module _ (s : Stores) (page : PageId) (valid : IsStores s) (lives : page.0 < length s.windows.pages) where
  abbrev own : Page
  own = page_at s.windows page

  own_page : IsPage (length s.windows.acts) own
  own_page = valid.windows.pages.each page.0 no_page lives

  own_refers : PageRefers (made s) own
  own_refers = valid.refer.pages page.0 no_page lives

  -- Cookies.

  set_cookie_valid : (domain : Option (List ℕ)) (key value : List ℕ) → ((d : List ℕ) → domain ≡ Some d → IsDomain d) → IsUtf8 key → IsUtf8 value → KeepsUnlessFault s (operators.set_cookie s domain key value)
  set_cookie_valid None key value is p q = tt
  set_cookie_valid (Some d) key value is p q =
      unless_fault s valid (net.cookie_fault s.jar d key value) (operators.becomes (record s { jar = net.cookie_put s.jar d key value }))
      (λ no. record { keeps = jar_changed s (net.cookie_put s.jar d key value) valid (put_valid s.jar d key value valid.jar (is d refl) p q no); value = (tt, tt) })

  del_cookie_valid : (domain : Option (List ℕ)) (key : List ℕ) → KeepsUnlessFault s (operators.del_cookie s domain key)
  del_cookie_valid None key = record { keeps = kept s valid; value = (tt, tt) }
  del_cookie_valid (Some d) key = record { keeps = jar_changed s (net.cookie_deleted s.jar d key) valid (deleted_valid s.jar d key [] valid.jar); value = (tt, tt) }

  -- Windows.

  shown_page : (w : WinId) → w.0 < length s.windows.windows → (window_at s.windows w).page.0 < length s.windows.pages
  shown_page w h = let is : IsWindow (length s.windows.windows) (length s.windows.pages) (window_at s.windows w) = valid.windows.windows w.0 no_window h in is.page

  opened_or : (name : Option (List ℕ)) (b : Bool) → stores.has_window_room s ≡ b → ForSome name IsUtf8
      → KeepsUnlessFault s (does_or_limit (val.Win (windows.next_win s.windows)) (cond b (Some (stores.opened s name (Some (operators.self_window s page)))) None))
  opened_or name false room named = tt
  opened_or name true room named = record {
    keeps = opened_valid s name (Some own.win) valid named (λ o e. let same : own.win ≡ o = cc in subst (λ (w : WinId). w.0 < length s.windows.windows) same own_refers.win) room;
    value = (tt, omega (arith, length-append s.windows.windows (record { name = name; opener = Some own.win; page = windows.next_page s.windows } ∷ [])));
  }

  open_at_valid : (name : Option (List ℕ)) (u : Url) → ForSome name IsUtf8 → IsWellSpelled u → KeepsUnlessFault s (operators.open_at s page name u)
  open_at_valid name url.Blank named is = opened_or name (stores.has_window_room s) refl named
  open_at_valid name (url.At domain uri) named is =
      let w = windows.next_win s.windows in
      let t = (stores.opened s name (Some own.win)).after in
      one_outcome s valid (stores.has_window_room s && stores.has_ask_room s domain) _ (Err fault.Limit)
      (λ e.
      let rooms = and_parts (stores.has_window_room s) (stores.has_ask_room s domain) e in
      let there : w.0 < length t.windows.windows = omega (arith, length-append s.windows.windows (record { name = name; opener = Some own.win; page = windows.next_page s.windows } ∷ [])) in
      let first = opened_valid s name (Some own.win) valid named (λ o f. let same : own.win ≡ o = cc in subst (λ (v : WinId). v.0 < length s.windows.windows) same own_refers.win) rooms.0 in
      record { keeps = kept_twice s t (stores.sent t domain uri [] (dst.Window w)).after first (sent_valid t domain uri [] (dst.Window w) first.stores is.0 is.1 tt there rooms.1); value = (tt, there) })
      tt

  win_stays : (w : WinId) → w.0 < length s.windows.windows → (t : Stores) → Keeps s t → IsVal (made t) (val.Win w)
  win_stays w h t k = let more = k.grows.wins in (tt, omega (arith, h, more))

  open_named_valid : (name : List ℕ) (u : Url) (w : Option WinId) → ((v : WinId) → w ≡ Some v → v.0 < length s.windows.windows) → IsUtf8 name → IsWellSpelled u → KeepsUnlessFault s (operators.open_named s page name u w)
  open_named_valid name u None there named is = open_at_valid (Some name) u (λ x e. let same : name ≡ x = cc in subst IsUtf8 same named) is
  open_named_valid name u (Some w) there named is = or_limit s valid (val.Win w) (stores.go s w u) (go_valid s w u valid (there w refl) is) (win_stays w (there w refl))

  -- Nodes and requests.

  text_valid : (t : Option (List ℕ)) → ((x : List ℕ) → t ≡ Some x → IsUtf8 x) → KeepsUnlessFault s (operators.text s t)
  text_valid None is = tt
  text_valid (Some t) is = value_given s valid (val.Str t) (is t refl, tt)

  child_valid : (c : Option NodeId) → ((n : NodeId) → c ≡ Some n → n.0 < length s.nodes) → KeepsUnlessFault s (operators.child s c)
  child_valid None there = tt
  child_valid (Some c) there = value_given s valid (val.Node c) (tt, there c refl)

  ask_at_valid : (body : List ℕ) (code : Code) (u : Url) → IsCode (made s) code → (length code.params == 1) ≡ true → IsWellSpelled u → KeepsUnlessFault s (operators.ask_at s page body code u)
  ask_at_valid body code url.Blank is one spelled = tt
  ask_at_valid body code (url.At domain uri) is one spelled =
      or_limit s valid val.Null (stores.send s domain uri body (dst.Call page code))
      (if_room s (stores.has_ask_room s domain) (stores.sent s domain uri body (dst.Call page code))
      (sent_valid s domain uri body (dst.Call page code) valid spelled.0 spelled.1 (record { spelled = is.0; takes_one = takes_one code code.params refl (eqb-true (length code.params) 1 one) }) (lives, is.1)))
      (λ t k. (tt, tt))

  node_shape : (n : NodeId) → n.0 < length s.nodes → IsShape (node_at s.nodes n).shape
  node_shape n h = (valid.nodes.each n.0 no_node h).shape

  named_there : (name : List ℕ) (w : WinId) → windows.named s.windows name ≡ Some w → w.0 < length s.windows.windows
  named_there name w e = found_item (λ v. v.0 < length s.windows.windows) _ s.windows.opened w valid.windows.opened.there e

  count_fits : (n : NodeId) → FitsSigned w64 (pos (length (children s.nodes n)))
  count_fits n =
      let few = few_children s.nodes valid.nodes.trees n in
      let all = valid.nodes.few in
      fits_signed_from_abs w64 (pos (length (children s.nodes n))) (omega (arith, few, all))

  -- an operator with valid operands keeps the stores, and gives a valid value
  pub operate_valid : (o : Op) (args : List Val) → All (IsVal (made s)) args → KeepsUnlessFault s (operate s page o args)
  operate_valid op.Cookie args are = on_str s valid args _ are (λ key p.
      value_given s valid _ (or_null_valid (IsVal (made s)) val.Str _ (tt, tt) (λ v e. (cookie_of s.jar (operators.page_domain s page) key v (λ d f. (valid.jar.each d key v f).value_is) e, tt))))
  operate_valid op.SetCookie args are = on_strs s valid args _ are (λ key value p q. set_cookie_valid (operators.page_domain s page) key value (λ d e. url_domain own.url d own_page.url e) p q)
  operate_valid op.DelCookie args are = on_str s valid args _ are (λ key p. del_cookie_valid (operators.page_domain s page) key)
  operate_valid op.SelfWindow args are = on_none s valid args _ (value_given s valid (val.Win own.win) (tt, own_refers.win))
  operate_valid op.Opener args are = on_win s valid args _ are (λ w there. with_open s valid w _ (value_given s valid _
      (or_null_valid (IsVal (made s)) val.Win _ (tt, tt) (λ v e. (tt, (valid.windows.windows w.0 no_window there).opener v e)))))
  operate_valid op.Live args are = on_win s valid args _ are (λ w there. value_given s valid (val.Bool (is_open s.windows w)) (tt, tt))
  operate_valid op.Url args are = on_win s valid args _ are (λ w there.
      let shows = page_at s.windows (window_at s.windows w).page in
      let is : IsPage (length s.windows.acts) shows = valid.windows.pages.each (window_at s.windows w).page.0 no_page (shown_page w there) in
      with_open s valid w _ (applied s valid _ (made_weighs s.mass (printed shows.url)) (made_valid (made s) s.mass (printed shows.url) (IsUtf8-printed shows.url is.url))))
  operate_valid op.Page args are = on_win s valid args _ are (λ w there.
      let is : PageRefers (made s) (page_at s.windows (window_at s.windows w).page) = valid.refer.pages (window_at s.windows w).page.0 no_page (shown_page w there) in
      with_open s valid w _ (value_given s valid _ (tt, is.root)))
  operate_valid op.Window args are = on_str s valid args _ are (λ name p. value_given s valid _ (or_null_valid (IsVal (made s)) val.Win _ (tt, tt) (λ w e. (tt, named_there name w e))))
  operate_valid op.Open args are = on_str s valid args _ are (λ address p. with_url s valid address _ (λ u is. open_at_valid None u (λ o e. cc) is))
  operate_valid op.OpenNamed args are = on_strs s valid args _ are (λ name address p q. with_url s valid address _ (λ u is. open_named_valid name u (windows.named s.windows name) (named_there name) p is))
  operate_valid op.Go args are = on_win_str s valid args _ are (λ w address there. with_open s valid w _ (with_url s valid address _ (λ u is. or_limit s valid val.Null (stores.go s w u) (go_valid s w u valid there is) (λ t k. (tt, tt)))))
  operate_valid op.Close args are = on_win s valid args _ are (λ w there. with_open s valid w _ (record { keeps = closed_valid s w valid; value = (tt, tt) }))
  operate_valid op.Kind args are = on_node s valid args _ are (λ n there. value_given s valid _ (IsUtf8-kind_word (kind_of (node_at s.nodes n).shape), tt))
  operate_valid op.Text args are = on_node s valid args _ are (λ n there. text_valid (text_of (node_at s.nodes n).shape) (λ t e. shape_text (node_at s.nodes n).shape t (node_shape n there) e))
  operate_valid op.SetText args are = on_node_str s valid args _ are (λ n t there p.
      unless_fault s valid (stores.set_text_fault s n t) _ (λ no. record { keeps = with_text_valid s n t valid there p (text_may s n t no); value = (tt, tt) }))
  operate_valid op.Count args are = on_node s valid args _ are (λ n there. value_given s valid _ (count_fits n, tt))
  operate_valid op.Child args are = on_node_num s valid args _ are (λ n k there.
      child_valid (operators.item_at (children s.nodes n) k) (λ c e. item_below (length s.nodes) (children s.nodes n) k c (valid.nodes.trees.below n) e))
  operate_valid op.Find args are = on_node_str s valid args _ are (λ n x there p.
      value_given s valid _ (or_null_valid (IsVal (made s)) val.Node _ (tt, tt) (λ m e. (tt, found_item (λ c. c.0 < length s.nodes) _ (Walk s.nodes n) m (walked_below s.nodes valid.nodes.trees n there) e))))
  operate_valid op.Nth args are = on_node_str_num s valid args _ are (λ n word k there.
      value_given s valid _ (or_null_valid (IsVal (made s)) val.Node _ (tt, tt)
      (λ m e. (tt, item_below (length s.nodes) (nodes.of_word s.nodes n word) k m (All-filter _ (λ c. c.0 < length s.nodes) (Walk s.nodes n) (walked_below s.nodes valid.nodes.trees n there)) e))))
  operate_valid op.Insert args are = on_nodes_num s valid args _ are (λ n c k there also.
      unless_fault s valid (nodes.insert_fault s.nodes n c k) _ (λ no. record { keeps = inserted_valid s n c k (nat_abs k) valid there also no; value = (tt, tt) }))
  operate_valid op.Listen args are = on_node_code s valid args _ are (λ n code there is.
      unless_fault s valid (nodes.handler_fault s.nodes n code) _ (λ no. record { keeps = handler_added_valid s n code valid there is no; value = (tt, tt) }))
  operate_valid op.Ask args are = on_strs_code s valid args _ are (λ address body code p q is.
      one_outcome s valid (length code.params == 1) _ (Err fault.Kind) (λ one. with_url s valid address _ (λ u spelled. ask_at_valid body code u is one spelled)) tt)
  operate_valid pure args are = applied s valid _ (apply_weighs pure args s.mass) (apply_valid (made s) pure args s.mass (λ k d lt. (are k d lt).0))
