-- A tree that is put under a node, and whose scripts start, keeps stores valid.
use Rattle.std.proofs.Common.{◌≡◌, ℕ, ◌<◌, ℤ, Option, Some, None, List, length, get_or, insert, refl, arith, length-set}
use Rattle.std.proofs.lemmas.List.Elements.{All-set}
use Rattle.std.proofs.lemmas.List.Sums.{sum_by-set}
use Rattle.ff_value.specs.declared.ids.NodeId.{NodeId}
use Rattle.ff_value.specs.declared.ids.PageId.{PageId}
use Rattle.ff_machine.specs.Shapes.{page_of, is_started}
use Rattle.ff_machine.specs.Nodes.{Node, no_node, node_at, children, set_node, insert_fault, joined, page_root_of}
use Rattle.ff_machine.specs.Windows.{is_live}
use Rattle.ff_machine.specs.Stores as stores
use Rattle.ff_machine.specs.Stores.{Stores}
use Rattle.ff_machine.specs.Alone.{AreNodes}
use Rattle.ff_machine.specs.References.{Grows, made, NodeRefers}
use Rattle.ff_machine.specs.Valid.{IsStores}
use Rattle.ff_laws.specs.Keeps.{Keeps}
use Rattle.ff_laws.proofs.Growing as growing
use Rattle.ff_machine.proofs.Lists.{at_set}
use Rattle.ff_laws.proofs.Sums.{if_so}
use Rattle.ff_laws.proofs.Simple.{touched_changed, touched_at_refers, root_page_lives}
use Rattle.ff_laws.proofs.NodeChanges.{rooted_same}
use Rattle.ff_laws.proofs.Starting.{kept, kept_twice, one_keeps, start_valid}
use Rattle.ff_machine.proofs.Joining.{may_join, joined_nodes}

module _ (s : Stores) (p c : NodeId) (at : ℕ) (valid : IsStores s) (p_lives : p.0 < length s.nodes) (c_lives : c.0 < length s.nodes) where
  abbrev child : Node
  child = record (node_at s.nodes c) { parent = Some p }

  abbrev over : Node
  over = record (node_at s.nodes p) { children = insert (children s.nodes p) at c }

  abbrev mid : List Node
  mid = set_node s.nodes c child

  abbrev new : List Node
  new = set_node mid p over

  -- the child stands under the parent
  pub joined_valid : AreNodes new → Keeps s (record s { nodes = new })
  joined_valid are =
      let t : Stores = record s { nodes = new } in
      let first : length mid ≡ length s.nodes = length-set s.nodes c.0 child in
      let size : length new ≡ length mid = length-set mid p.0 over in
      let grows : Grows (made s) (made t) = record { wins = omega arith; pages = omega arith; nodes = omega (arith, first, size); acts = omega arith } in
      let refer = growing.stores_refer_grow (made s) (made t) grows s valid.refer in
      let c_refers : NodeRefers (made t) (node_at s.nodes c) = refer.nodes c.0 no_node c_lives in
      let p_refers : NodeRefers (made t) (node_at s.nodes p) = refer.nodes p.0 no_node p_lives in
      let one = sum_by-set (λ (x : Node). if_so (is_started x.shape)) s.nodes c.0 child no_node c_lives in
      let two = sum_by-set (λ (x : Node). if_so (is_started x.shape)) mid p.0 over no_node (omega (arith, first, p_lives)) in
      let same : if_so (is_started (get_or mid p.0 no_node).shape) ≡ if_so (is_started (get_or s.nodes p.0 no_node).shape) =
      at_set (λ j (x : Node). if_so (is_started x.shape) ≡ if_so (is_started (get_or s.nodes j no_node).shape)) s.nodes c.0 p.0 child no_node refl refl in
      record {
        stores = record {
          nodes = are;
          windows = valid.windows;
          jar = valid.jar;
          requests = valid.requests;
          refer = record {
            nodes = All-set (NodeRefers (made t)) mid p.0 over (record { shape = p_refers.shape; handlers = p_refers.handlers })
                (All-set (NodeRefers (made t)) s.nodes c.0 child (record { shape = c_refers.shape; handlers = c_refers.handlers }) refer.nodes);
            pages = refer.pages;
            acts = refer.acts;
            requests = refer.requests;
            touched = refer.touched;
          };
          rooted = rooted_same s.nodes new s.windows.pages
              (λ n. at_set (λ j (x : Node). page_of x.shape ≡ page_of (get_or s.nodes j no_node).shape) mid p.0 n.0 over no_node refl
              (at_set (λ j (x : Node). page_of x.shape ≡ page_of (get_or s.nodes j no_node).shape) s.nodes c.0 n.0 child no_node refl refl)) valid.rooted;
          queued = record { entries = omega (arith, one, two, same, valid.queued.entries); slots = omega (arith, one, two, same, valid.queued.slots) };
          light = valid.light;
        };
        grows = grows;
      }

started_in : (s t : Stores) (p c : NodeId) (page : Option PageId) → IsStores s → Keeps s t → page_root_of s.nodes p ≡ page → Keeps t (stores.start_in page c t).after
started_in s t p c None valid keeps e = kept t keeps.stores
started_in s t p c (Some page) valid keeps e =
    let lives = root_page_lives (made s) s.nodes p page valid.refer.nodes e in
    one_keeps t (is_live t.windows page) (stores.start page c t) (stores.nothing t) (λ live. start_valid page c t keeps.stores (omega (arith, lives, keeps.grows.pages))) (kept t keeps.stores)

-- a child that is inserted without a fault keeps stores valid
pub inserted_valid : (s : Stores) (p c : NodeId) (at : ℤ) (place : ℕ) → IsStores s → p.0 < length s.nodes → c.0 < length s.nodes → insert_fault s.nodes p c at ≡ None → Keeps s (stores.insert s p c place).after
unfolding joined
inserted_valid s p c at place valid p_lives c_lives no_fault =
    let are = joined_nodes s.nodes valid.nodes.trees p c place p_lives c_lives (may_join s.nodes p c at no_fault) valid.nodes in
    let u : Stores = record s { nodes = joined s.nodes p c place } in
    let t : Stores = record u { touched = stores.touched_at s p } in
    let first = joined_valid s p c place valid p_lives c_lives are in
    let touched = touched_changed u (stores.touched_at s p) first.stores (touched_at_refers s p valid) in
    let both = kept_twice s u t first touched in
    kept_twice s t (stores.insert s p c place).after both (started_in s t p c (page_root_of s.nodes p) valid both refl)
