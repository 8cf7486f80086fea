-- A node whose links stay may be another: texts and started scripts keep stores valid.
use Rattle.std.proofs.Common.{◌≡◌, ℕ, ◌<◌, ◌≤◌, Bool, true, false, Some, List, length, get_or, refl, sym, ap, ◌∙◌, arith, length-set}
use Rattle.std.proofs.lemmas.List.Elements.{All-set}
use Rattle.std.proofs.lemmas.List.Sums.{sum_by-set}
use Rattle.std.specs.Str.{IsUtf8}
use Rattle.ff_value.specs.declared.ids.NodeId.{NodeId}
use Rattle.ff_value.specs.declared.ids.PageId.{PageId}
use Rattle.ff_machine.specs.declared.records.Shape.{Shape}
use Rattle.ff_machine.specs.declared.records.Shape.TheVariants as shape
use Rattle.ff_machine.specs.Shapes.{page_of, is_started, with_text, as_started}
use Rattle.ff_machine.specs.Nodes as nodes
use Rattle.ff_machine.specs.Nodes.{Node, no_node, node_at, children, parent, set_node}
use Rattle.ff_machine.specs.Windows.{Page, nth_page}
use Rattle.ff_machine.specs.Stores.{Stores}
use Rattle.ff_machine.specs.Alone.{IsNode}
use Rattle.ff_machine.proofs.Changes.{IsAlike, alike_itself, with_text_alike, as_started_alike, node_set, text_node, started_node}
use Rattle.ff_machine.proofs.Lists.{at_set}
use Rattle.ff_machine.specs.References.{Made, Grows, made, ShapeRefers, NodeRefers}
use Rattle.ff_machine.specs.Valid.{IsStores, AreRooted}
use Rattle.ff_laws.specs.Keeps.{Keeps}
use Rattle.ff_laws.proofs.Growing as growing
use Rattle.ff_laws.proofs.Sums.{if_so}

-- Shapes alike.

-- the shapes are alike, and what was started still is
pub record IsLike (old new : Shape) : Type 0 where
  pub alike : IsAlike old new
  pub started : if_so (is_started old) ≤ if_so (is_started new)

-- a shape is like itself
pub like_itself : (s : Shape) → IsLike s s
like_itself s = record { alike = alike_itself s; started = omega arith }

with_text_same : (s : Shape) (text : List ℕ) → is_started (with_text s text) ≡ is_started s
with_text_same (shape.Page page) text = refl
with_text_same other text = refl

-- a shape with another text is like it
pub with_text_like : (s : Shape) (text : List ℕ) → IsLike s (with_text s text)
with_text_like s text = record { alike = with_text_alike s text; started = let same = ap if_so (with_text_same s text) in omega (arith, same) }

at_most_one : (b : Bool) → if_so b ≤ 1
at_most_one true = omega arith
at_most_one false = omega arith

started_more : (s : Shape) → if_so (is_started s) ≤ if_so (is_started (as_started s))
started_more (shape.Script x started body) = at_most_one started
started_more (shape.Src x started url) = at_most_one started
started_more other = omega arith

-- so is one that was started
pub as_started_like : (s : Shape) → IsLike s (as_started s)
as_started_like s = record { alike = as_started_alike s; started = started_more s }

-- Stores with another node.

is_page : (s : Shape) (p : PageId) → page_of s ≡ Some p → s ≡ shape.Page p
is_page (shape.Page q) p e = let same : q ≡ p = cc in ap shape.Page same
is_page other p e = cc

-- where each node is the root of the same page, the pages are rooted as before
pub rooted_same : (all new : List Node) (pages : List Page) → ((n : NodeId) → page_of (node_at new n).shape ≡ page_of (node_at all n).shape) → AreRooted all pages → AreRooted new pages
rooted_same all new pages same rooted = record {
  root = λ p lt. is_page (node_at new (nth_page pages p).root).shape p (same (nth_page pages p).root ∙ ap page_of (rooted.root p lt));
  only = λ n p e. rooted.only n p (is_page (node_at all n).shape p (sym (same n) ∙ ap page_of e));
}

-- another node at a number, which is valid, refers to what was made and is like the old one, keeps
-- stores valid
pub node_changed : (s : Stores) (n : NodeId) (node : Node) → IsStores s → n.0 < length s.nodes → node.children ≡ children s.nodes n → node.parent ≡ parent s.nodes n
    → IsLike (node_at s.nodes n).shape node.shape → IsNode node → NodeRefers (made s) node → Keeps s (record s { nodes = set_node s.nodes n node })
node_changed s n node valid lives kids up like is refers =
    let all = s.nodes in
    let size : length (set_node all n node) ≡ length all = length-set all n.0 node in
    let t : Stores = record s { nodes = set_node all n node } in
    let grows : Grows (made s) (made t) = record { wins = omega arith; pages = omega arith; nodes = omega (arith, size); acts = omega arith } in
    let refer = growing.stores_refer_grow (made s) (made t) grows s valid.refer in
    let count = sum_by-set (λ (x : Node). if_so (is_started x.shape)) all n.0 node no_node lives in
    record {
      stores = record {
        nodes = node_set all n node valid.nodes kids up is;
        windows = valid.windows;
        jar = valid.jar;
        requests = valid.requests;
        refer = record {
          nodes = All-set (NodeRefers (made t)) all n.0 node (growing.node_refers_grows (made s) (made t) grows node refers) refer.nodes;
          pages = refer.pages;
          acts = refer.acts;
          requests = refer.requests;
          touched = refer.touched;
        };
        rooted = rooted_same all (set_node all n node) s.windows.pages (λ m. at_set (λ i x. page_of x.shape ≡ page_of (get_or all i no_node).shape) all n.0 m.0 node no_node like.alike.page refl) valid.rooted;
        queued = record { entries = omega (arith, count, like.started, valid.queued.entries); slots = omega (arith, count, like.started, valid.queued.slots) };
        light = valid.light;
      };
      grows = grows;
    }

with_text_refers : (m : Made) (s : Shape) (text : List ℕ) → ShapeRefers m s → ShapeRefers m (with_text s text)
with_text_refers m (shape.Page page) text h = h
with_text_refers m other text h = tt

as_started_refers : (m : Made) (s : Shape) → ShapeRefers m s → ShapeRefers m (as_started s)
as_started_refers m (shape.Page page) h = h
as_started_refers m other h = tt

-- a script that counts as started keeps stores valid
pub started_valid : (s : Stores) (n : NodeId) → IsStores s → n.0 < length s.nodes → Keeps s (record s { nodes = nodes.started s.nodes n })
started_valid s n valid lives =
    let node = node_at s.nodes n in
    let is : IsNode node = valid.nodes.each n.0 no_node lives in
    let refers : NodeRefers (made s) node = valid.refer.nodes n.0 no_node lives in
    let like = as_started_like node.shape in
    node_changed s n (record node { shape = as_started node.shape }) valid lives refl refl like
    (started_node node is)
    (record { shape = as_started_refers (made s) node.shape refers.shape; handlers = refers.handlers })

-- a node with another text keeps stores valid
pub text_set_valid : (s : Stores) (n : NodeId) (text : List ℕ) → IsStores s → n.0 < length s.nodes → IsUtf8 text → Keeps s (record s { nodes = nodes.text_set s.nodes n text })
text_set_valid s n text valid lives is_text =
    let node = node_at s.nodes n in
    let is : IsNode node = valid.nodes.each n.0 no_node lives in
    let refers : NodeRefers (made s) node = valid.refer.nodes n.0 no_node lives in
    let like = with_text_like node.shape text in
    node_changed s n (record node { shape = with_text node.shape text }) valid lives refl refl like
    (text_node node text is is_text)
    (record { shape = with_text_refers (made s) node.shape text refers.shape; handlers = refers.handlers })
