-- A page whose queue changed keeps stores valid, where its entries came with started scripts.
use Rattle.std.proofs.Common.{◌≡◌, ◌+◌, ◌<◌, ◌≤◌, List, length, get_or, set, sum_by, refl, sym, subst, ◌∙◌, arith, length-set}
use Rattle.std.proofs.lemmas.List.Elements.{All-set}
use Rattle.std.proofs.lemmas.List.Sums.{sum_by-set, count_by-le-length, get_or-le-sum_by}
use Rattle.ff_name.specs.Address.{IsWellSpelled}
use Rattle.ff_value.specs.declared.ids.PageId.{PageId}
use Rattle.ff_value.specs.declared.ids.NodeId.{NodeId}
use Rattle.ff_value.specs.declared.ids.WinId.{WinId}
use Rattle.ff_value.specs.declared.ids.ActId.{ActId}
use Rattle.ff_machine.specs.Shapes.{is_started}
use Rattle.ff_machine.specs.declared.records.Shape.TheVariants as shape
use Rattle.ff_machine.specs.Nodes.{Node, node_at}
use Rattle.ff_machine.specs.Windows.{Page, no_page, nth_page, page_at, set_page}
use Rattle.ff_machine.specs.Stores.{Stores}
use Rattle.ff_machine.specs.Alone.{IsQueue, IsPage}
use Rattle.ff_machine.specs.References.{Grows, made, PageRefers}
use Rattle.ff_machine.specs.Valid.{IsStores, count_started}
use Rattle.ff_laws.specs.Keeps.{Keeps}
use Rattle.ff_laws.specs.Later.{IsSamePage}
use Rattle.ff_laws.proofs.Growing as growing
use Rattle.ff_machine.proofs.Lists.{at_set}
use Rattle.ff_machine.proofs.WindowChanges.{page_set}

-- what a changed page has to keep
pub record IsQueued (s : Stores) (p : PageId) (page : Page) : Type 0 where
  pub same : IsSamePage (page_at s.windows p) page
  pub queue : IsQueue page.next page.queue
  pub entries : sum_by (λ x. length x.queue) s.windows.pages + length page.queue ≤ count_started s.nodes + length (page_at s.windows p).queue
  pub slots : sum_by (λ x. x.next) s.windows.pages + page.next ≤ count_started s.nodes + (page_at s.windows p).next

-- there are no more scripts than nodes
pub few_started : (nodes : List Node) → count_started nodes ≤ length nodes
few_started nodes = count_by-le-length (λ (node : Node). is_started node.shape) nodes

-- then the stores are kept
pub page_changed : (s : Stores) (p : PageId) (page : Page) → IsStores s → p.0 < length s.windows.pages → IsQueued s p page → Keeps s (record s { windows = set_page s.windows p page })
page_changed s p page valid lives is =
    let pages = s.windows.pages in
    let old = page_at s.windows p in
    let new = set_page s.windows p page in
    let t : Stores = record s { windows = new } in
    let size : length (set pages p.0 page) ≡ length pages = length-set pages p.0 page in
    let grows : Grows (made s) (made t) = record { wins = omega arith; pages = omega (arith, size); nodes = omega arith; acts = omega arith } in
    let refer = growing.stores_refer_grow (made s) (made t) grows s valid.refer in
    let queues = sum_by-set (λ (x : Page). length x.queue) pages p.0 page no_page lives in
    let nexts = sum_by-set (λ (x : Page). x.next) pages p.0 page no_page lives in
    let least = get_or-le-sum_by (λ (x : Page). x.next) pages p.0 no_page lives in
    let few = few_started s.nodes in
    let was : IsPage (length s.windows.acts) old = valid.windows.pages.each p.0 no_page lives in
    let was_there : PageRefers (made s) old = valid.refer.pages p.0 no_page lives in
    record {
      stores = record {
        nodes = valid.nodes;
        windows = page_set s.windows p page valid.windows lives (record {
          url = subst IsWellSpelled (sym is.same.url) was.url;
          act = subst (λ (a : ActId). a.0 < length s.windows.acts) (sym is.same.act) was.act;
          win = is.same.win;
          queue = is.queue;
          few_slots = omega (arith, is.slots, valid.queued.slots, few, valid.nodes.few, least);
          few_entries = omega (arith, is.entries, few, valid.nodes.few);
        });
        jar = valid.jar;
        requests = valid.requests;
        refer = record {
          nodes = refer.nodes;
          pages = All-set (PageRefers (made t)) pages p.0 page
              (growing.page_refers_grows (made s) (made t) grows page (record { win = subst (λ (w : WinId). w.0 < length s.windows.windows) (sym is.same.win) was_there.win; root = subst (λ (n : NodeId). n.0 < length s.nodes) (sym is.same.root) was_there.root }))
              refer.pages;
          acts = refer.acts;
          requests = refer.requests;
          touched = refer.touched;
        };
        rooted = record {
          root = λ q lt. subst (λ (n : NodeId). (node_at s.nodes n).shape ≡ shape.Page q) (sym (same_root q)) (valid.rooted.root q (omega (arith, lt, size)));
          only = λ n q e. same_root q ∙ valid.rooted.only n q e;
        };
        queued = record { entries = omega (arith, queues, is.entries); slots = omega (arith, nexts, is.slots) };
        light = valid.light;
      };
      grows = grows;
    } where
      same_root : (q : PageId) → (nth_page (set s.windows.pages p.0 page) q).root ≡ (nth_page s.windows.pages q).root
      same_root q = at_set (λ j (x : Page). x.root ≡ (get_or s.windows.pages j no_page).root) s.windows.pages p.0 q.0 page no_page is.same.root refl
