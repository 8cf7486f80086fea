-- A tree that is made of a document keeps stores valid.
use Rattle.std.proofs.Common.{◌≡◌, ◌+◌, ◌-◌, ◌<◌, ◌≤◌, ⊎_elim, true, Option, Some, None, List, [], ◌++◌, length, get_or, All, refl, sym, ap, ◌∙◌, arith, length-append}
use Rattle.std.proofs.lemmas.Bool.{cases_lt}
use Rattle.std.proofs.lemmas.List.{get_or_append_left, get_or-append-add, get_or_past}
use Rattle.std.proofs.lemmas.List.Sums.{sum_by-append}
use Rattle.ff_tree.specs.Spelled.{IsWellSpelledDoc}
use Rattle.ff_tree.specs.Weight.{doc_weight}
use Rattle.ff_tree.specs.declared.tree.Doc.{Doc}
use Rattle.ff_value.specs.declared.fault.Fault.{Fault}
use Rattle.ff_value.specs.declared.ids.ActId.{ActId}
use Rattle.ff_value.specs.declared.ids.NodeId.{NodeId}
use Rattle.ff_value.specs.declared.ids.PageId.{PageId}
use Rattle.ff_value.specs.declared.value.Val.TheVariants as val
use Rattle.ff_machine.specs.declared.records.Shape.{Shape}
use Rattle.ff_machine.specs.declared.records.Shape.TheVariants as shape
use Rattle.ff_machine.specs.Faults.{limit_unless, first_fault}
use Rattle.ff_machine.specs.Shapes.{page_of, is_started}
use Rattle.ff_machine.specs.Nodes as nodes
use Rattle.ff_machine.specs.Nodes.{Node, no_node, node_at, has_room}
use Rattle.ff_machine.specs.Documents.{laid}
use Rattle.ff_machine.specs.Windows.{no_page, nth_page}
use Rattle.ff_machine.specs.Stores as stores
use Rattle.ff_machine.specs.Stores.{Stores, may_weigh, nothing}
use Rattle.ff_machine.specs.Operators.{unless, does}
use Rattle.ff_machine.specs.Reduction.{make_tree, tree_fault, with_tree}
use Rattle.ff_machine.specs.References.{Made, Grows, made, PageRefers}
use Rattle.ff_machine.specs.Valid.{IsStores, count_started}
use Rattle.ff_laws.specs.Keeps.{Keeps}
use Rattle.ff_laws.specs.Reduced.{KeepsUnlessFault}
use Rattle.ff_laws.proofs.Growing as growing
use Rattle.ff_machine.proofs.Changes.{within}
use Rattle.ff_laws.proofs.Sums.{if_so}
use Rattle.ff_laws.proofs.Simple.{weighed_valid}
use Rattle.ff_machine.proofs.LaidDocs.{IsGood, doc_laid, doc_good}
use Rattle.ff_machine.proofs.MadeTrees.{tree_made, tree_refers}

-- more nodes hold no fewer scripts that were started
pub more_started : (all xs : List Node) → count_started all ≤ count_started (all ++ xs)
more_started all xs = let sum = sum_by-append (λ (node : Node). if_so (is_started node.shape)) all xs in omega (arith, sum)

-- the root of an old page is the node that it was
pub old_root : (all xs : List Node) (n : NodeId) → n.0 < length all → node_at (all ++ xs) n ≡ node_at all n
old_root all xs n lt = get_or_append_left all xs no_node n.0 lt

-- a shape of no page is that of no page's root
pub no_page_shape : (s : Shape) (p : PageId) → page_of s ≡ None → s ≡ shape.Page p → ⊥
no_page_shape s p e h = some_none (sym e ∙ ap page_of h) where
  some_none : None ≡ Some p → ⊥
  some_none q = cc

-- a node that is the root of a page is an old one, where no new one is a root
pub only_old : (all xs : List Node) (m : Made) (n : NodeId) (p : PageId) → All (IsGood m) xs → (node_at (all ++ xs) n).shape ≡ shape.Page p → (node_at all n).shape ≡ shape.Page p
only_old all xs m n p fresh e =
    ⊎_elim (λ l. sym (ap (λ (node : Node). node.shape) (old_root all xs n l)) ∙ e) (λ l. absurd (new l)) (cases_lt n.0 (length all)) where
      new : length all ≤ n.0 → ⊥
      new l =
          ⊎_elim
          (λ h.
          let place : n.0 ≡ length all + (n.0 - length all) = omega (arith, l) in
          let is : node_at (all ++ xs) n ≡ get_or xs (n.0 - length all) no_node = ap (λ k. get_or (all ++ xs) k no_node) place ∙ get_or-append-add all xs (n.0 - length all) no_node in
          no_page_shape (get_or xs (n.0 - length all) no_node).shape p (fresh (n.0 - length all) no_node (omega (arith, h, l))).inner (sym (ap (λ (node : Node). node.shape) is) ∙ e))
          (λ h. no_page_shape (shape.Div []) p refl (sym (ap (λ (node : Node). node.shape) (get_or_past (all ++ xs) n.0 no_node (omega (arith, h, length-append all xs)))) ∙ e))
          (cases_lt n.0 (length all + length xs))

module _ (s : Stores) (valid : IsStores s) (env : ActId) (d : Doc) (is : IsWellSpelledDoc d) (lives : env.0 < length s.windows.acts) (room : has_room s.nodes (laid env d).size ≡ true) where
  abbrev xs : List Node
  xs = (laid env d).nodes (length s.nodes) None

  abbrev t : Stores
  t = record s { nodes = s.nodes ++ xs }

  -- a tree more keeps stores valid
  pub tree_planted : Keeps s t
  tree_planted =
      let size : length (s.nodes ++ xs) ≡ length s.nodes + length xs = length-append s.nodes xs in
      let grows : Grows (made s) (made t) = record { wins = omega arith; pages = omega arith; nodes = omega (arith, size); acts = omega arith } in
      let refer = growing.stores_refer_grow (made s) (made t) grows s valid.refer in
      let good : All (IsGood (made t)) xs = doc_good (made t) env lives d is.spelled is.shallow (length s.nodes) None in
      let more = more_started s.nodes xs in
      record {
        stores = record {
          nodes = tree_made (made t) env lives s.nodes valid.nodes d is room;
          windows = valid.windows;
          jar = valid.jar;
          requests = valid.requests;
          refer = record { nodes = tree_refers (made t) env lives s.nodes valid.nodes d is refer.nodes; pages = refer.pages; acts = refer.acts; requests = refer.requests; touched = refer.touched };
          rooted = record {
            root = λ p lt.
                let page : PageRefers (made s) (nth_page s.windows.pages p) = valid.refer.pages p.0 no_page lt in
                ap (λ (node : Node). node.shape) (old_root s.nodes xs (nth_page s.windows.pages p).root page.root) ∙ valid.rooted.root p lt;
            only = λ n p e. valid.rooted.only n p (only_old s.nodes xs (made t) n p good e);
          };
          queued = record { entries = omega (arith, more, valid.queued.entries); slots = omega (arith, more, valid.queued.slots) };
          light = valid.light;
        };
        grows = grows;
      }

  -- its root was made
  pub root_made : length s.nodes < length t.nodes
  root_made = let l = doc_laid env d in let some = l.some in omega (arith, some, length-append s.nodes xs, l.sized (length s.nodes) None)

parts_of : (a b : Option Fault) → first_fault a b ≡ None → (a ≡ None) × (b ≡ None)
parts_of None b e = (refl, e)
parts_of (Some f) b e = cc

made_of : (s : Stores) (a : ActId) (d : Doc) (why : Option Fault) → IsStores s → a.0 < length s.windows.acts → IsWellSpelledDoc d → (why ≡ None → tree_fault s a d ≡ None)
    → KeepsUnlessFault s (unless why (does (val.Node (nodes.next_node s.nodes)) (nothing (with_tree s a d))))
made_of s a d (Some f) valid lives is why = tt
made_of s a d None valid lives is why =
    let no = parts_of (limit_unless (may_weigh s (doc_weight d))) (nodes.room_fault s.nodes (laid a d).size) (why refl) in
    let heavier = weighed_valid s (doc_weight d) valid (within _ no.0) in
    let u = stores.weighed s (doc_weight d) in
    let planted = tree_planted u heavier.stores a d is lives (within _ no.1) in
    record {
      keeps = record { stores = planted.stores; grows = planted.grows };
      value = (tt, root_made u heavier.stores a d is lives (within _ no.1));
    }

-- a tree that is made without a fault keeps stores valid, and so is the reference to it
pub tree_made_valid : (s : Stores) (a : ActId) (d : Doc) → IsStores s → a.0 < length s.windows.acts → IsWellSpelledDoc d → KeepsUnlessFault s (make_tree s a d)
tree_made_valid s a d valid lives is = made_of s a d (tree_fault s a d) valid lives is (λ e. e)
