-- The value of an operator: one that refers to what was made, or the window that it opens.
use Rattle.std.proofs.Common.{◌≡◌, ℕ, ℤ, pos, ◌<◌, ◌⊎◌, inl, inr, ◌==◌, ◌&&◌, Bool, true, false, cond, Option, Some, None, Result, Ok, Err, List, length, option_and_then, All, arith, refl, sym, subst}
use Rattle.std.specs.List.{AllByRecursion}
use Rattle.std.specs.Option.{ForSome}
use Rattle.std.specs.Str.{IsUtf8}
use Rattle.std.proofs.lemmas.Bool.{eqb-true}
use Rattle.std.proofs.lemmas.List.Elements.{recursion_from_All}
use Rattle.ff_name.specs.Address.{IsWellSpelled, printed}
use Rattle.ff_name.specs.Reading.{read_url}
use Rattle.ff_name.specs.declared.urls.Url.{Url}
use Rattle.ff_name.specs.declared.urls.Url.TheVariants as url
use Rattle.ff_operators.specs.declared.answer.Applied.{Applied}
use Rattle.ff_operators.specs.Operands.{with_operands, no_operands, one_str, two_strs, one_win, win_str, one_node, node_str, node_num, node_str_num, nodes_num, node_code, strs_code}
use Rattle.ff_operators.specs.Pure.{apply}
use Rattle.ff_confinement.specs.Turns.{Stepped}
use Rattle.ff_tree.specs.declared.op.Op.{Op}
use Rattle.ff_tree.specs.declared.op.Op.TheVariants as op
use Rattle.ff_value.specs.Spelled.{IsWellSpelledVal}
use Rattle.ff_value.specs.declared.fault.Fault.{Fault}
use Rattle.ff_value.specs.declared.fault.Fault.TheVariants as fault
use Rattle.ff_value.specs.declared.ids.WinId.{WinId}
use Rattle.ff_value.specs.declared.ids.NodeId.{NodeId}
use Rattle.ff_value.specs.declared.ids.PageId.{PageId}
use Rattle.ff_value.specs.declared.output.Out.{Out}
use Rattle.ff_value.specs.declared.value.Code.{Code}
use Rattle.ff_value.specs.declared.value.Val.{Val}
use Rattle.ff_value.specs.declared.value.Val.TheVariants as val
use Rattle.ff_machine.specs.declared.records.Shape.{Shape}
use Rattle.ff_machine.specs.declared.records.Shape.TheVariants as shape
use Rattle.ff_machine.specs.Shapes.{kind_of, text_of}
use Rattle.ff_machine.specs.Nodes as nodes
use Rattle.ff_machine.specs.Nodes.{Walk, node_at, no_node, children}
use Rattle.ff_machine.specs.Net as net
use Rattle.ff_machine.specs.Windows as windows
use Rattle.ff_machine.specs.Windows.{is_open, is_win, page_at, window_at, no_page, no_window}
use Rattle.ff_machine.specs.Stores as stores
use Rattle.ff_machine.specs.Stores.{Stores}
use Rattle.ff_machine.specs.Operators as operators
use Rattle.ff_machine.specs.Operators.{Outcome, operate, gives, does, does_or_limit, becomes, unless, with_mass, or_null, if_open, at_url, page_domain}
use Rattle.ff_machine.specs.Alone.{IsShape}
use Rattle.ff_machine.specs.References.{made as made_of}
use Rattle.ff_machine.specs.Valid.{IsVal, IsStores, GivesVal}
use Rattle.ff_machine.proofs.Lists.{any_holds, found_holds, kept_hold, item_holds}
use Rattle.ff_machine.proofs.Operands.{operands_give, one_node_holds, node_str_holds, node_str_num_holds}
use Rattle.ff_machine.proofs.Pure.{AppliesVal, apply_valid, made_valid}
use Rattle.ff_machine.proofs.Utf8.{IsUtf8-kind_word, IsUtf8-printed}
use Rattle.ff_machine.proofs.Walks.{walk_made, few_children}

-- Outcomes.

module _ (s : Stores) where
  or_null_valid : {X : Type 0} (f : X → Val) (o : Option X) → ForSome o (λ x. IsVal (made_of s) (f x)) → GivesVal s (gives s (or_null f o))
  or_null_valid f None h = inl (tt, tt)
  or_null_valid f (Some x) h = inl (h x refl)

  unless_valid : (o : Option Fault) (done : Outcome) → GivesVal s done → GivesVal s (unless o done)
  unless_valid None done h = h
  unless_valid (Some f) done h = tt

  limit_valid : (v : Val) (o : Option (Stepped Out Stores)) → IsVal (made_of s) v ⊎ (v ≡ val.Win (windows.next_win s.windows)) → GivesVal s (does_or_limit v o)
  limit_valid v None h = tt
  limit_valid v (Some step) h = h

  where_open : (w : WinId) (done : Outcome) → (is_open s.windows w ≡ true → GivesVal s done) → GivesVal s (if_open s w done)
  where_open w done h = by (is_open s.windows w) refl where
    by : (b : Bool) → is_open s.windows w ≡ b → GivesVal s (cond b done (Err fault.Dead))
    by true e = h e
    by false e = tt

  at_url_valid : (o : Option Url) (f : Url → Outcome) → ((u : Url) → GivesVal s (f u)) → GivesVal s (at_url o f)
  at_url_valid None f h = tt
  at_url_valid (Some u) f h = h u

  mass_valid : (r : Result Applied Fault) → AppliesVal (made_of s) r → GivesVal s (with_mass s r)
  mass_valid (Ok applied) h = inl h
  mass_valid (Err f) h = tt

-- What is read off valid stores.

module _ (s : Stores) (is : IsStores s) where
  -- an open window is a window
  open_made : (w : WinId) → is_open s.windows w ≡ true → w.0 < length s.windows.windows
  open_made w e =
      let found = any_holds (is_win w) (λ v. v.0 < length s.windows.windows) s.windows.opened (recursion_from_All (λ v. v.0 < length s.windows.windows) s.windows.opened is.windows.opened.there) e in
      subst (λ k. k < length s.windows.windows) (sym (eqb-true w.0 found.0.0 found.1)) found.2

  -- its page is a page
  page_made : (w : WinId) → is_open s.windows w ≡ true → (window_at s.windows w).page.0 < length s.windows.pages
  page_made w e = (is.windows.windows w.0 no_window (open_made w e)).page

  named_made : (name : List ℕ) → ForSome (windows.named s.windows name) (λ w. w.0 < length s.windows.windows)
  named_made name = found_holds _ (λ w. w.0 < length s.windows.windows) s.windows.opened (recursion_from_All (λ w. w.0 < length s.windows.windows) s.windows.opened is.windows.opened.there)

  self_made : (page : PageId) → page.0 < length s.windows.pages → (page_at s.windows page).win.0 < length s.windows.windows
  self_made page live = (is.refer.pages page.0 no_page live).win

  root_made : (page : PageId) → page.0 < length s.windows.pages → (page_at s.windows page).root.0 < length s.nodes
  root_made page live = (is.refer.pages page.0 no_page live).root

  url_spelled : (page : PageId) → page.0 < length s.windows.pages → IsWellSpelled (page_at s.windows page).url
  url_spelled page live = (is.windows.pages.each page.0 no_page live).url

  cookie_text : (page : PageId) (key : List ℕ) → ForSome (option_and_then (λ d. net.cookie s.jar d key) (page_domain s page)) IsUtf8
  cookie_text page key = by (page_domain s page) where
    by : (o : Option (List ℕ)) → ForSome (option_and_then (λ d. net.cookie s.jar d key) o) IsUtf8
    by None text e = cc
    by (Some d) text e = (is.jar.each d key text e).value_is

  walk_there : (n : NodeId) → n.0 < length s.nodes → AllByRecursion (λ m. m.0 < length s.nodes) (Walk s.nodes n)
  walk_there n here = walk_made s.nodes is.nodes.trees n here

  text_spelled : (n : NodeId) → n.0 < length s.nodes → ForSome (text_of (node_at s.nodes n).shape) IsUtf8
  text_spelled n here = by (node_at s.nodes n).shape (is.nodes.each n.0 no_node here).shape where
    by : (sh : Shape) → IsShape sh → ForSome (text_of sh) IsUtf8
    by (shape.Text x text) h t e = let its : text ≡ t = cc in subst IsUtf8 its h.1
    by (shape.Link x u text) h t e = let its : text ≡ t = cc in subst IsUtf8 its h.2
    by (shape.TextBox x text) h t e = let its : text ≡ t = cc in subst IsUtf8 its h.1
    by (shape.Button x text) h t e = let its : text ≡ t = cc in subst IsUtf8 its h.1
    by other h t e = cc

  text_valid : (o : Option (List ℕ)) → ForSome o IsUtf8 → GivesVal s (operators.text s o)
  text_valid None h = tt
  text_valid (Some t) h = inl (h t refl, tt)

  child_valid : (o : Option NodeId) → ForSome o (λ c. c.0 < length s.nodes) → GivesVal s (operators.child s o)
  child_valid None h = tt
  child_valid (Some c) h = inl (tt, h c refl)

  count_valid : (n : NodeId) → GivesVal s (gives s (val.Num (pos (length (children s.nodes n)))))
  count_valid n =
      let few = few_children s.nodes is.nodes.trees n in
      let all = is.nodes.few in
      inl (record { sfits = omega (arith, few, all) }, tt)

  null_valid : (o : Option Fault) (t : Stores) → GivesVal s (unless o (becomes t))
  null_valid o t = unless_valid s o (becomes t) (inl (tt, tt))

  does_null_valid : (o : Option Fault) (step : Stepped Out Stores) → GivesVal s (unless o (does val.Null step))
  does_null_valid o step = unless_valid s o (does val.Null step) (inl (tt, tt))

  set_cookie_valid : (d : Option (List ℕ)) (key value : List ℕ) → GivesVal s (operators.set_cookie s d key value)
  set_cookie_valid None key value = tt
  set_cookie_valid (Some d) key value = null_valid _ _

  del_cookie_valid : (d : Option (List ℕ)) (key : List ℕ) → GivesVal s (operators.del_cookie s d key)
  del_cookie_valid None key = inl (tt, tt)
  del_cookie_valid (Some d) key = inl (tt, tt)

  opener_valid : (w : WinId) → GivesVal s (operators.opener s w)
  opener_valid w = where_open s w _ (λ e. or_null_valid s val.Win (window_at s.windows w).opener (λ v h. (tt, (is.windows.windows w.0 no_window (open_made w e)).opener v h)))

  page_url_valid : (w : WinId) → GivesVal s (operators.page_url s w)
  page_url_valid w = where_open s w _ (λ e. mass_valid s _ (made_valid (made_of s) s.mass (printed (page_at s.windows (window_at s.windows w).page).url) (IsUtf8-printed (page_at s.windows (window_at s.windows w).page).url (url_spelled (window_at s.windows w).page (page_made w e)))))

  page_root_valid : (w : WinId) → GivesVal s (operators.page_root s w)
  page_root_valid w = where_open s w _ (λ e. inl (tt, root_made (window_at s.windows w).page (page_made w e)))

  open_at_valid : (page : PageId) (name : Option (List ℕ)) (u : Url) → GivesVal s (operators.open_at s page name u)
  open_at_valid page name url.Blank = limit_valid s _ _ (inr refl)
  open_at_valid page name (url.At domain uri) = by (stores.has_window_room s && stores.has_ask_room s domain) _ where
    by : (b : Bool) (step : Stepped Out Stores) → GivesVal s (cond b (does (val.Win (windows.next_win s.windows)) step) (Err fault.Limit))
    by true step = inr refl
    by false step = tt

  open_named_valid : (page : PageId) (name : List ℕ) (u : Url) (o : Option WinId) → ForSome o (λ w. w.0 < length s.windows.windows) → GivesVal s (operators.open_named s page name u o)
  open_named_valid page name u None h = open_at_valid page (Some name) u
  open_named_valid page name u (Some w) h = limit_valid s (val.Win w) _ (inl (tt, h w refl))

  go_valid : (w : WinId) (text : List ℕ) → GivesVal s (operators.go s w text)
  go_valid w text = where_open s w _ (λ e. at_url_valid s (read_url text) _ (λ u. limit_valid s val.Null _ (inl (tt, tt))))

  ask_at_valid : (page : PageId) (body : List ℕ) (code : Code) (u : Url) → GivesVal s (operators.ask_at s page body code u)
  ask_at_valid page body code url.Blank = tt
  ask_at_valid page body code (url.At domain uri) = limit_valid s val.Null _ (inl (tt, tt))

  ask_valid : (page : PageId) (address body : List ℕ) (code : Code) → GivesVal s (operators.ask s page address body code)
  ask_valid page address body code = by (length code.params == 1) where
    by : (b : Bool) → GivesVal s (cond b (at_url (read_url address) (operators.ask_at s page body code)) (Err fault.Kind))
    by true = at_url_valid s (read_url address) _ (ask_at_valid page body code)
    by false = tt

  nth_valid : (n : NodeId) (word : List ℕ) (k : ℤ) → n.0 < length s.nodes → GivesVal s (operators.nth s n word k)
  nth_valid n word k here = or_null_valid s val.Node _ (λ m e. (tt, item_holds (λ m. m.0 < length s.nodes) (nodes.of_word s.nodes n word) k (kept_hold _ (λ m. m.0 < length s.nodes) (Walk s.nodes n) (walk_there n here)) m e))

  -- All operators.

  by_operands : {X : Type 0} (o : Option X) (f : X → Outcome) → ((x : X) → o ≡ Some x → GivesVal s (f x)) → GivesVal s (with_operands o f)
  by_operands o f each = operands_give (GivesVal s) tt o f each

  -- a valid value
  abbrev IsGood : Val → Type 0
  IsGood v = IsVal (made_of s) v

  spelled_each : (args : List Val) → All IsGood args → All IsWellSpelledVal args
  spelled_each args all k d here = (all k d here).0

  pure_valid : (o : Op) (args : List Val) → All IsGood args → GivesVal s (with_mass s (apply o args s.mass))
  pure_valid o args all = mass_valid s (apply o args s.mass) (apply_valid (made_of s) o args s.mass (spelled_each args all))

  operate_by : (page : PageId) → page.0 < length s.windows.pages → (o : Op) (args : List Val) → AllByRecursion IsGood args → All IsGood args → GivesVal s (operate s page o args)
  operate_by page live op.Cookie args good all = by_operands (one_str args) _ (λ key e. or_null_valid s val.Str _ (λ text h. (cookie_text page key text h, tt)))
  operate_by page live op.SetCookie args good all = by_operands (two_strs args) _ (λ o e. set_cookie_valid (page_domain s page) o.0 o.1)
  operate_by page live op.DelCookie args good all = by_operands (one_str args) _ (λ key e. del_cookie_valid (page_domain s page) key)
  operate_by page live op.SelfWindow args good all = by_operands (no_operands args) _ (λ o e. inl (tt, self_made page live))
  operate_by page live op.Opener args good all = by_operands (one_win args) _ (λ w e. opener_valid w)
  operate_by page live op.Live args good all = by_operands (one_win args) _ (λ w e. inl (tt, tt))
  operate_by page live op.Url args good all = by_operands (one_win args) _ (λ w e. page_url_valid w)
  operate_by page live op.Page args good all = by_operands (one_win args) _ (λ w e. page_root_valid w)
  operate_by page live op.Window args good all = by_operands (one_str args) _ (λ name e. or_null_valid s val.Win _ (λ w h. (tt, named_made name w h)))
  operate_by page live op.Open args good all = by_operands (one_str args) _ (λ address e. at_url_valid s (read_url address) _ (open_at_valid page None))
  operate_by page live op.OpenNamed args good all = by_operands (two_strs args) _ (λ o e. at_url_valid s (read_url o.1) _ (λ u. open_named_valid page o.0 u _ (named_made o.0)))
  operate_by page live op.Go args good all = by_operands (win_str args) _ (λ o e. go_valid o.0 o.1)
  operate_by page live op.Close args good all = by_operands (one_win args) _ (λ w e. where_open s w _ (λ _. inl (tt, tt)))
  operate_by page live op.Kind args good all = by_operands (one_node args) _ (λ n e. inl (IsUtf8-kind_word (kind_of (node_at s.nodes n).shape), tt))
  operate_by page live op.Text args good all = by_operands (one_node args) _ (λ n e. text_valid _ (text_spelled n (one_node_holds IsGood args n good e).1))
  operate_by page live op.SetText args good all = by_operands (node_str args) _ (λ o e. null_valid _ _)
  operate_by page live op.Count args good all = by_operands (one_node args) _ (λ n e. count_valid n)
  operate_by page live op.Child args good all = by_operands (node_num args) _ (λ o e. child_valid _ (item_holds (λ c. c.0 < length s.nodes) (children s.nodes o.0) o.1 (recursion_from_All (λ c. c.0 < length s.nodes) (children s.nodes o.0) (is.nodes.trees.below o.0))))
  operate_by page live op.Find args good all = by_operands (node_str args) _ (λ o e. or_null_valid s val.Node _ (λ m h. (tt, found_holds _ (λ n. n.0 < length s.nodes) (Walk s.nodes o.0) (walk_there o.0 (node_str_holds IsGood args o good e).0.1) m h)))
  operate_by page live op.Nth args good all = by_operands (node_str_num args) _ (λ o e. nth_valid o.0 o.1 o.2 (node_str_num_holds IsGood args o good e).0.1)
  operate_by page live op.Insert args good all = by_operands (nodes_num args) _ (λ o e. does_null_valid _ _)
  operate_by page live op.Listen args good all = by_operands (node_code args) _ (λ o e. null_valid _ _)
  operate_by page live op.Ask args good all = by_operands (strs_code args) _ (λ o e. ask_valid page o.0 o.1 o.2)
  operate_by page live other args good all = pure_valid other args all

  -- an operator gives, for valid operands in a task of a page that was made, a valid value, or it
  -- fails
  pub operate_valid : (page : PageId) → page.0 < length s.windows.pages → (o : Op) (args : List Val) → All (IsVal (made_of s)) args → GivesVal s (operate s page o args)
  operate_valid page live o args all = operate_by page live o args (recursion_from_All IsGood args all) all
