-- Changes of the mass, of the touched pages, and of nodes whose links stay, keep stores valid.
use Rattle.std.proofs.Common.{◌≡◌, ℕ, ◌+◌, ◌<◌, ◌≤◌, ⊎_elim, true, Option, Some, None, List, length, get_or, All, refl, sym, subst, ◌∙◌}
use Rattle.std.proofs.lemmas.Bool.{leb-true, cases_lt, or_cases, false≢true}
use Rattle.std.proofs.lemmas.List.{get_or_past}
use Rattle.std.proofs.lemmas.List.Elements.{All-nil}
use Rattle.std.specs.Cmp.{nat_cmp_total, Equal-is}
use Rattle.std.specs.Ordering.{nat_cmp, eq_by_cmp}
use Rattle.std.specs.FinSet as finset
use Rattle.ff_operators.specs.Limits.{most_mass}
use Rattle.ff_value.specs.declared.ids.NodeId.{NodeId}
use Rattle.ff_value.specs.declared.ids.PageId.{PageId}
use Rattle.ff_machine.specs.declared.records.Shape.{Shape}
use Rattle.ff_machine.specs.declared.records.Shape.TheVariants as shape
use Rattle.ff_machine.specs.Shapes.{page_of}
use Rattle.ff_machine.specs.Nodes.{Node, no_node, node_at, page_root_of, root}
use Rattle.ff_machine.specs.Stores as stores
use Rattle.ff_machine.specs.Stores.{Stores, Pages, may_weigh}
use Rattle.ff_machine.specs.References.{Made, made, CodeRefers, ShapeRefers, NodeRefers, TouchedRefer}
use Rattle.ff_machine.specs.Valid.{IsStores}
use Rattle.ff_laws.specs.Keeps.{Keeps}
use Rattle.ff_laws.proofs.Growing as growing

-- The mass and the touched pages.

-- a greater mass within its limit keeps stores valid
pub mass_changed : (s : Stores) (mass : ℕ) → IsStores s → mass ≤ most_mass → Keeps s (record s { mass = mass })
mass_changed s mass valid le = record {
  stores = record {
    nodes = valid.nodes;
    windows = valid.windows;
    jar = valid.jar;
    requests = valid.requests;
    refer = record { nodes = valid.refer.nodes; pages = valid.refer.pages; acts = valid.refer.acts; requests = valid.refer.requests; touched = valid.refer.touched };
    rooted = valid.rooted;
    queued = valid.queued;
    light = le;
  };
  grows = growing.as_many (made s);
}

-- so does a mass that may be weighed
pub weighed_valid : (s : Stores) (weight : ℕ) → IsStores s → may_weigh s weight ≡ true → Keeps s (stores.weighed s weight)
weighed_valid s weight valid may = mass_changed s (s.mass + weight) valid (leb-true (s.mass + weight) most_mass may)

-- other touched pages, which were made, keep stores valid
pub touched_changed : (s : Stores) (touched : Pages) → IsStores s → TouchedRefer (made s) touched → Keeps s (record s { touched = touched })
touched_changed s touched valid refer = record {
  stores = record {
    nodes = valid.nodes;
    windows = valid.windows;
    jar = valid.jar;
    requests = valid.requests;
    refer = record { nodes = valid.refer.nodes; pages = valid.refer.pages; acts = valid.refer.acts; requests = valid.refer.requests; touched = refer };
    rooted = valid.rooted;
    queued = valid.queued;
    light = valid.light;
  };
  grows = growing.as_many (made s);
}

-- nothing was touched
pub settled_valid : (s : Stores) → IsStores s → Keeps s (stores.settle s).after
settled_valid s valid = touched_changed s finset.empty valid (λ page is. absurd (false≢true (sym (finset.contains-empty nat_cmp page) ∙ is)))

same_number : (a b : ℕ) → eq_by_cmp nat_cmp a b ≡ true → a ≡ b
same_number a b e = finset.nat_cmp-IsAntisymmetric a b ((Equal-is (nat_cmp a b)).0 e)

one_touched : (m : Made) (touched : Pages) (p : PageId) → p.0 < m.pages → TouchedRefer m touched → TouchedRefer m (finset.insert touched p.0)
one_touched m touched p lives refer page is =
    ⊎_elim
    (λ h. subst (λ (n : ℕ). n < m.pages) (sym (same_number page p.0 h)) lives)
    (λ h. refer page h)
    (or_cases (eq_by_cmp nat_cmp page p.0) (finset.contains touched page) (sym (finset.contains-insert nat_cmp_total touched p.0 page) ∙ is))

touched_by : (m : Made) (o : Option PageId) (touched : Pages) → ((p : PageId) → o ≡ Some p → p.0 < m.pages) → TouchedRefer m touched → TouchedRefer m (stores.touch o touched)
touched_by m None touched lives refer = refer
touched_by m (Some p) touched lives refer = one_touched m touched p (lives p refl) refer

-- an item at any number, where what stands past the end is fine too
pub at_any : {X : Type 0} (P : X → Type 0) (xs : List X) (i : ℕ) (d : X) → All P xs → P d → P (get_or xs i d)
at_any P xs i d each default = ⊎_elim (λ l. each i d l) (λ l. subst P (sym (get_or_past xs i d l)) default) (cases_lt i (length xs))

page_refers : (m : Made) (s : Shape) (p : PageId) → page_of s ≡ Some p → ShapeRefers m s → p.0 < m.pages
page_refers m (shape.Page q) p e h = let same : q ≡ p = cc in subst (λ (r : PageId). r.0 < m.pages) same h
page_refers m other p e h = cc

no_node_refers : (m : Made) → NodeRefers m no_node
no_node_refers m = record { shape = tt; handlers = All-nil (CodeRefers m) }

-- the page whose tree a node is in was made
pub root_page_lives : (m : Made) (all : List Node) (n : NodeId) (p : PageId) → All (NodeRefers m) all → page_root_of all n ≡ Some p → p.0 < m.pages
root_page_lives m all n p refer e = page_refers m (node_at all (root all n)).shape p e (at_any (NodeRefers m) all (root all n).0 no_node refer (no_node_refers m)).shape

-- the pages that count as changed after one of a node does were made
pub touched_at_refers : (s : Stores) (n : NodeId) → IsStores s → TouchedRefer (made s) (stores.touched_at s n)
touched_at_refers s n valid = touched_by (made s) (page_root_of s.nodes n) s.touched (λ p e. root_page_lives (made s) s.nodes n p valid.refer.nodes e) valid.refer.touched
