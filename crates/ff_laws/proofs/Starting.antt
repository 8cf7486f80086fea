-- Scripts that start keep stores valid.
use Rattle.std.proofs.Common.{◌≡◌, ℕ, suc, ◌+◌, ◌<◌, ◌≤◌, ⊎_elim, Bool, true, false, cond, ◌==◌, eqb, List, [], ◌∷◌, ◌++◌, length, filter, sum_by, refl, sym, ap, subst, ◌∙◌, arith, length-append}
use Rattle.std.specs.List.{AllByRecursion}
use Rattle.std.proofs.lemmas.Bool.{false≢true, cases_lt, eq-eqb, eqb-false}
use Rattle.std.proofs.lemmas.List.{get_or_past}
use Rattle.std.proofs.lemmas.List.Sums.{sum_by-set}
use Rattle.ff_confinement.specs.Turns.{Stepped}
use Rattle.ff_name.specs.Spelling.{IsDomain}
use Rattle.ff_name.specs.Address.{IsRequest}
use Rattle.ff_name.specs.declared.urls.Url.TheVariants as url
use Rattle.ff_tree.specs.Spelled.{IsWellSpelledExpr, doc_depth, expr_depth, handler_depth, doc_nesting, expr_nesting, handler_nesting}
use Rattle.ff_tree.specs.declared.tree.Doc.{Doc}
use Rattle.ff_tree.specs.declared.tree.Handler.{Handler}
use Rattle.ff_tree.specs.declared.tree.Doc.TheOpen.{Expr-F}
use Rattle.ff_tree.specs.declared.tree.Doc.TheFolds.{map-Expr, fold_out-Expr}
use Rattle.ff_tree.specs.declared.tree.Expr.{Expr}
use Rattle.ff_tree.specs.declared.tree.Expr.TheVariants as expr
use Rattle.ff_tree.specs.declared.tree.Lit.TheVariants as lit
use Rattle.ff_tree.proofs.Layers.{IsSpelledExpr-Lit}
use Rattle.ff_value.specs.Spelled.{IsNat}
use Rattle.ff_value.specs.declared.ids.NodeId.{NodeId}
use Rattle.ff_value.specs.declared.ids.PageId.{PageId}
use Rattle.ff_value.specs.declared.output.Out.{Out}
use Rattle.ff_machine.specs.declared.records.Dst.TheVariants as dst
use Rattle.ff_machine.specs.declared.records.Entry.TheVariants.{Ready, Wait}
use Rattle.ff_machine.specs.declared.records.Shape.{Shape}
use Rattle.ff_machine.specs.declared.records.Shape.TheVariants as shape
use Rattle.ff_machine.specs.Shapes.{is_started, is_unstarted, as_started}
use Rattle.ff_machine.specs.Nodes as nodes
use Rattle.ff_machine.specs.Nodes.{Node, no_node, node_at, Walk}
use Rattle.ff_machine.specs.Windows.{Page, no_page, page_at}
use Rattle.ff_machine.specs.Stores as stores
use Rattle.ff_machine.specs.Stores.{Stores}
use Rattle.ff_machine.specs.Alone.{IsShape, IsPage}
use Rattle.ff_machine.specs.References.{made}
use Rattle.ff_machine.specs.Valid.{IsStores, count_started}
use Rattle.ff_laws.specs.Keeps.{Keeps}
use Rattle.ff_laws.proofs.Growing.{as_many, grown}
use Rattle.ff_machine.proofs.Lists.{at_set}
use Rattle.ff_laws.proofs.Sums.{if_so}
use Rattle.ff_laws.proofs.Asking.{sent_valid}
use Rattle.ff_laws.proofs.NodeChanges.{started_valid}
use Rattle.ff_machine.proofs.Queues.{with_ready, with_wait}
use Rattle.ff_laws.proofs.Queues.{page_changed}
use Rattle.ff_laws.proofs.Walks.{times, scripts_once}

-- stores that are kept twice
pub kept_twice : (a b c : Stores) → Keeps a b → Keeps b c → Keeps a c
kept_twice a b c g h = record { stores = h.stores; grows = grown (made a) (made b) (made c) g.grows h.grows }

-- stores that stay as they are
pub kept : (s : Stores) → IsStores s → Keeps s s
kept s valid = record { stores = valid; grows = as_many (made s) }

-- one of two steps keeps the stores
pub one_keeps : (s : Stores) (b : Bool) (x y : Stepped Out Stores) → (b ≡ true → Keeps s x.after) → Keeps s y.after → Keeps s (cond b x y).after
one_keeps s true x y g h = g refl
one_keeps s false x y g h = h

null_depth : expr_depth (expr.Lit lit.Null) ≡ 0
null_depth =
    fold_out-Expr ℕ ℕ ℕ doc_nesting expr_nesting handler_nesting (expr.Lit lit.Null)
    ∙ ap (λ (l : Expr-F Doc Expr Handler). expr_nesting (map-Expr Doc Expr Handler ℕ ℕ ℕ doc_depth expr_depth handler_depth l)) (expr.outs-Lit lit.Null)

-- `null` is well spelled
pub null_spelled : IsWellSpelledExpr (expr.Lit lit.Null)
null_spelled = record { spelled = subst (λ (T : Type 0). T) (sym (IsSpelledExpr-Lit lit.Null)) tt; shallow = omega (arith, null_depth) }

-- there is room for one entry and one slot more
pub record HasSlack (s : Stores) : Type 0 where
  pub entries : sum_by (λ page. length page.queue) s.windows.pages + 1 ≤ count_started s.nodes
  pub slots : sum_by (λ page. page.next) s.windows.pages + 1 ≤ count_started s.nodes

module _ (s : Stores) (page : PageId) (valid : IsStores s) (lives : page.0 < length s.windows.pages) (slack : HasSlack s) where
  abbrev old : Page
  old = page_at s.windows page

  was : IsPage (length s.windows.acts) old
  was = valid.windows.pages.each page.0 no_page lives

  -- one entry more in the page's queue keeps stores valid
  pub queued_valid : (body : Expr) → IsWellSpelledExpr body → Keeps s (stores.queued s page body).after
  queued_valid body spelled =
      page_changed s page (record old { queue = old.queue ++ Ready body ∷ [] }) valid lives (record {
        same = record { url = refl; win = refl; root = refl; act = refl };
        queue = with_ready old.next old.queue body was.queue spelled;
        entries = omega (arith, slack.entries, length-append old.queue (Ready body ∷ []));
        slots = omega (arith, valid.queued.slots);
      })

  -- and so does one slot more
  pub slotted_valid : Keeps s (stores.slotted page s).after
  slotted_valid =
      page_changed s page (record old { queue = old.queue ++ Wait old.next ∷ []; next = suc old.next }) valid lives (record {
        same = record { url = refl; win = refl; root = refl; act = refl };
        queue = with_wait old.next old.queue was.queue;
        entries = omega (arith, slack.entries, length-append old.queue (Wait old.next ∷ []));
        slots = omega (arith, slack.slots);
      })

  slot_fits : IsNat old.next
  slot_fits = let few = was.few_slots in omega (arith, few)

-- the next slot's script is asked for, or `null` may run in its place
fetched_valid : (s : Stores) (page : PageId) (domain uri : List ℕ) → IsStores s → page.0 < length s.windows.pages → HasSlack s → IsDomain domain → IsRequest uri
    → Keeps s (stores.fetched s page domain uri).after
fetched_valid s page domain uri valid lives slack is_domain is_request =
    let to = dst.Slot page (page_at s.windows page).next in
    let asks = stores.sent s domain uri [] to in
    one_keeps s (stores.has_ask_room s domain) (stores.then asks (stores.slotted page)) (stores.queued s page (expr.Lit lit.Null))
    (λ room.
    let first = sent_valid s domain uri [] to valid is_domain is_request (slot_fits s page valid lives slack) lives room in
    kept_twice s asks.after (stores.slotted page asks.after).after first
    (slotted_valid asks.after page first.stores lives (record { entries = slack.entries; slots = slack.slots })))
    (queued_valid s page valid lives slack (expr.Lit lit.Null) null_spelled)

-- a script of a valid shape begins
begun_valid : (s : Stores) (page : PageId) (x : Shape) → IsStores s → page.0 < length s.windows.pages → HasSlack s → IsShape x → Keeps s (stores.begun s page x).after
begun_valid s page (shape.Script x started body) valid lives slack is = queued_valid s page valid lives slack body is.1
begun_valid s page (shape.Src x started url.Blank) valid lives slack is = kept s valid
begun_valid s page (shape.Src x started (url.At domain uri)) valid lives slack is = fetched_valid s page domain uri valid lives slack is.1.0 is.1.1
begun_valid s page other valid lives slack is = kept s valid

-- beginning leaves the nodes
fetched_nodes : (s : Stores) (b : Bool) (x y : Stepped Out Stores) → x.after.nodes ≡ s.nodes → y.after.nodes ≡ s.nodes → (cond b x y).after.nodes ≡ s.nodes
fetched_nodes s true x y g h = g
fetched_nodes s false x y g h = h

pub begun_nodes : (s : Stores) (page : PageId) (x : Shape) → (stores.begun s page x).after.nodes ≡ s.nodes
begun_nodes s page (shape.Src x started url.Blank) = refl
begun_nodes s page (shape.Src x started (url.At domain uri)) = fetched_nodes s (stores.has_ask_room s domain) _ (stores.queued s page (expr.Lit lit.Null)) refl refl
begun_nodes s page other = refl

unstarted_is : (x : Shape) → is_unstarted x ≡ true → (is_started x ≡ false) × (is_started (as_started x) ≡ true)
unstarted_is (shape.Script x true body) h = cc
unstarted_is (shape.Script x false body) h = (refl, refl)
unstarted_is (shape.Src x true url) h = cc
unstarted_is (shape.Src x false url) h = (refl, refl)
unstarted_is other h = cc

-- a script that wasn't started was made
pub unstarted_lives : (all : List Node) (n : NodeId) → is_unstarted (node_at all n).shape ≡ true → n.0 < length all
unstarted_lives all n h = ⊎_elim (λ l. l) (λ l. absurd (false≢true (sym (ap (λ (node : Node). is_unstarted node.shape) (get_or_past all n.0 no_node l)) ∙ h))) (cases_lt n.0 (length all))

-- a script that counts as started leaves room for its entry
pub started_slack : (s : Stores) (n : NodeId) → IsStores s → is_unstarted (node_at s.nodes n).shape ≡ true → HasSlack (record s { nodes = nodes.started s.nodes n })
started_slack s n valid h =
    let node = node_at s.nodes n in
    let is = unstarted_is node.shape h in
    let before : if_so (is_started node.shape) ≡ 0 = ap if_so is.0 in
    let after : if_so (is_started (as_started node.shape)) ≡ 1 = ap if_so is.1 in
    let count = sum_by-set (λ (x : Node). if_so (is_started x.shape)) s.nodes n.0 (record node { shape = as_started node.shape }) no_node (unstarted_lives s.nodes n h) in
    record { entries = omega (arith, count, before, after, valid.queued.entries); slots = omega (arith, count, before, after, valid.queued.slots) }

-- a script that wasn't started starts
pub start_one_valid : (page : PageId) (n : NodeId) (s : Stores) → IsStores s → page.0 < length s.windows.pages → is_unstarted (node_at s.nodes n).shape ≡ true → Keeps s (stores.start_one page n s).after
start_one_valid page n s valid lives h =
    let there = unstarted_lives s.nodes n h in
    let t : Stores = record s { nodes = nodes.started s.nodes n } in
    let first = started_valid s n valid there in
    kept_twice s t (stores.start_one page n s).after first
    (begun_valid t page (node_at s.nodes n).shape first.stores lives (started_slack s n valid h) (valid.nodes.each n.0 no_node there).shape)

-- Scripts one after another.

-- none of the scripts was started
abbrev pub AreUnstarted : List Node → List NodeId → Type 0
AreUnstarted all ns = AllByRecursion (λ n. is_unstarted (node_at all n).shape ≡ true) ns

no_one : (b : Bool) (k : ℕ) → if_so b + k ≡ 0 → b ≡ false
no_one true k h = absurd (omega (arith, h))
no_one false k h = refl

other_unstarted : (s : Stores) (n m : NodeId) → (m.0 == n.0) ≡ false → is_unstarted (node_at s.nodes m).shape ≡ true → is_unstarted (node_at (nodes.started s.nodes n) m).shape ≡ true
other_unstarted s n m other h =
    at_set (λ j (x : Node). eqb j n.0 ≡ false → is_unstarted x.shape ≡ true) s.nodes n.0 m.0 (record (node_at s.nodes n) { shape = as_started (node_at s.nodes n).shape }) no_node
    (λ e. absurd (eqb-false n.0 n.0 e refl)) (λ e. h) other

-- the others are still not started
pub others_unstarted : (page : PageId) (n : NodeId) (s : Stores) (ns : List NodeId) → times n ns ≡ 0 → AreUnstarted s.nodes ns → AreUnstarted (stores.start_one page n s).after.nodes ns
others_unstarted page n s [] none h = tt
others_unstarted page n s (m ∷ ns) none h =
    let t : Stores = record s { nodes = nodes.started s.nodes n } in
    let here = other_unstarted s n m (no_one (m.0 == n.0) (times n ns) none) h.0 in
    (subst (λ (all : List Node). is_unstarted (node_at all m).shape ≡ true) (sym (begun_nodes t page (node_at s.nodes n).shape)) here, others_unstarted page n s ns (omega (arith, none)) h.1)

here_once : (b : Bool) (k : ℕ) → b ≡ true → if_so b + k ≤ 1 → k ≡ 0
here_once true k e h = omega (arith, h)
here_once false k e h = cc

less_often : (b : Bool) (k most : ℕ) → if_so b + k ≤ most → k ≤ most
less_often b k most h = omega (arith, h)

-- scripts that weren't started, each once in the list, start one after another
pub start_each_valid : (page : PageId) (ns : List NodeId) (s : Stores) → IsStores s → page.0 < length s.windows.pages → AreUnstarted s.nodes ns → ((m : NodeId) → times m ns ≤ 1)
    → Keeps s (stores.start_each page ns s).after
start_each_valid page [] s valid lives h once = kept s valid
start_each_valid page (n ∷ ns) s valid lives h once =
    let first = start_one_valid page n s valid lives h.0 in
    let t = (stores.start_one page n s).after in
    let none = here_once (n.0 == n.0) (times n ns) (eq-eqb n.0 n.0 refl) (once n) in
    kept_twice s t (stores.start_each page ns t).after first
    (start_each_valid page ns t first.stores (omega (arith, lives, first.grows.pages)) (others_unstarted page n s ns none h.1) (λ m. less_often (n.0 == m.0) (times m ns) 1 (once m)))

chosen_unstarted : (all : List Node) (b : Bool) (n : NodeId) (ns : List NodeId) → is_unstarted (node_at all n).shape ≡ b → AreUnstarted all ns → AreUnstarted all (cond b (n ∷ ns) ns)
chosen_unstarted all true n ns h rest = (h, rest)
chosen_unstarted all false n ns h rest = rest

-- the scripts of a walk that weren't started weren't
pub filter_unstarted : (all : List Node) (ns : List NodeId) → AreUnstarted all (filter (λ m. is_unstarted (node_at all m).shape) ns)
filter_unstarted all [] = tt
filter_unstarted all (n ∷ ns) = chosen_unstarted all (is_unstarted (node_at all n).shape) n (filter (λ m. is_unstarted (node_at all m).shape) ns) refl (filter_unstarted all ns)

-- the scripts of a tree start in a page
pub start_valid : (page : PageId) (n : NodeId) (s : Stores) → IsStores s → page.0 < length s.windows.pages → Keeps s (stores.start page n s).after
start_valid page n s valid lives = start_each_valid page (nodes.scripts s.nodes n) s valid lives (filter_unstarted s.nodes (Walk s.nodes n)) (scripts_once s.nodes valid.nodes.trees n)
