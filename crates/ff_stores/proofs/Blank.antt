-- A blank page has no scripts.
use Rattle.std.proofs.Common.{◌≡◌, ℕ, suc, ◌+◌, arith, Bool, false, cond, None, List, [], ◌∷◌, ◌++◌, length, filter, refl, ap, ◌∙◌}
use Rattle.std.specs.Prelude.{flat_map}
use Rattle.std.proofs.lemmas.List.{get_or_push}
use Rattle.ff_contract.specs.Rises.{RisesBy}
use Rattle.ff_name.specs.declared.urls.Url.{Url}
use Rattle.ff_value.specs.declared.ids.NodeId.{NodeId}
use Rattle.ff_value.specs.declared.ids.WinId.{WinId}
use Rattle.ff_machine.specs.declared.limits.TheConstants.{MOST_TREE_DEPTH}
use Rattle.ff_machine.specs.declared.records.Shape.TheVariants as shape
use Rattle.ff_machine.specs.Nodes.{Node, no_node, node_at, children, walk_within, Walk, scripts, next_node}
use Rattle.ff_machine.specs.Shapes.{is_unstarted}
use Rattle.ff_machine.specs.Stores.{Stores, with_shown_page}
use Rattle.ff_machine.specs.Windows.{next_page}
use Rattle.ff_tree.specs.declared.tree.Doc.{Doc}
use Rattle.ff_stores.specs.Copied.{loading}

walk_alone : (more : ℕ) (all : List Node) (n : NodeId) → children all n ≡ [] → walk_within (suc more) all n ≡ n ∷ []
walk_alone more all n none = ap (λ (cs : List NodeId). n ∷ flat_map (walk_within more all) cs) none

scripts_alone : (all : List Node) (n : NodeId) → children all n ≡ [] → is_unstarted (node_at all n).shape ≡ false → scripts all n ≡ []
unfolding Walk
scripts_alone all n none is =
    ap (λ (ns : List NodeId). filter (λ m. is_unstarted (node_at all m).shape) ns) (walk_alone MOST_TREE_DEPTH all n none) ∙ ap (λ (b : Bool). cond b (n ∷ []) []) is

-- the scripts of a page without documents
pub blank_scripts : (s : Stores) (w : WinId) (u : Url) → scripts (with_shown_page s w u []).nodes (next_node s.nodes) ≡ []
blank_scripts s w u =
    let root : Node = record { shape = shape.Page (next_page s.windows); handlers = []; children = []; parent = None } in
    let here = get_or_push s.nodes root no_node (length s.nodes) refl in
    scripts_alone (s.nodes ++ root ∷ []) (next_node s.nodes) (ap (λ (x : Node). x.children) here) (ap (λ (x : Node). is_unstarted x.shape) here)

-- so many cells are copied when one is loaded
pub blank_copies : (s : Stores) (w : WinId) (u : Url) (docs : List Doc) (before after : ℕ) → docs ≡ [] → RisesBy (loading s w u docs) before after → RisesBy 94 before after
blank_copies s w u docs before after is h =
    let at = rw is at h in
    let none : length (scripts (with_shown_page s w u []).nodes (next_node s.nodes)) ≡ 0 = ap (λ (ns : List NodeId). length ns) (blank_scripts s w u) in
    omega (arith, at, none)
