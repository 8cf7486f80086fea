-- Another node at a number: where its links stay and it is valid itself, the nodes stay valid. So a
-- text, a handler and a started script keep them so.
use Rattle.std.proofs.Common.{◌≡◌, ℕ, zero, suc, ◌<◌, ◌≤◌, ◌==◌, Bool, true, false, cond, not, eqb, Option, Some, None, IsSome, List, [], ◌∷◌, ◌++◌, length, get_or, count_by, All, refl, sym, ap, subst, ◌∙◌, arith, length-set, length-append, ltb-true}
use Rattle.std.proofs.lemmas.Bool.{true≢false, eqb-true}
use Rattle.std.proofs.lemmas.List.Elements.{All-weaker, All-set, All-push}
use Rattle.std.specs.Str.{IsUtf8}
use Rattle.ff_tree.specs.declared.limits.TheConstants.{MOST_HANDLERS}
use Rattle.ff_value.specs.declared.fault.Fault.{Fault}
use Rattle.ff_value.specs.declared.fault.Fault.TheVariants as fault
use Rattle.ff_value.specs.declared.ids.NodeId.{NodeId}
use Rattle.ff_value.specs.declared.ids.PageId.{PageId}
use Rattle.ff_value.specs.declared.value.Code.{Code}
use Rattle.ff_value.specs.Spelled.{IsWellSpelledCode, TakesOne}
use Rattle.ff_machine.specs.declared.records.Shape.{Shape}
use Rattle.ff_machine.specs.declared.records.Shape.TheVariants as shape
use Rattle.ff_machine.specs.declared.limits.TheConstants.{MOST_TREE_DEPTH}
use Rattle.ff_machine.specs.Faults.{limit_unless}
use Rattle.ff_machine.specs.Shapes.{kind_of, name_of, page_of, with_text, as_started, may_have_handlers, may_have_children}
use Rattle.ff_machine.specs.Nodes.{Node, no_node, node_at, children, parent, depth, depth_within, at_parent, set_node, handler_fault}
use Rattle.ff_machine.specs.Alone.{IsHandler, IsShape, IsNode, AreTrees, AreNodes}
use Rattle.ff_machine.proofs.Lists.{at_set}

-- Nodes with the same links.

-- the nodes have the same children and parents as others
pub record SameLinks (all new : List Node) : Type 0 where
  pub size : length new ≡ length all
  pub same_children : (n : NodeId) → children new n ≡ children all n
  pub same_parent : (n : NodeId) → parent new n ≡ parent all n

at_same : {X : Type 0} (f g : NodeId → X) (here : X) (o : Option NodeId) → ((p : NodeId) → f p ≡ g p) → at_parent here f o ≡ at_parent here g o
at_same f g here None below = refl
at_same f g here (Some p) below = below p

depth_same : (k : ℕ) (all new : List Node) → SameLinks all new → (n : NodeId) → depth_within k new n ≡ depth_within k all n
depth_same zero all new same n = refl
depth_same (suc k) all new same n =
    ap (at_parent 0 (λ p. suc (depth_within k new p))) (same.same_parent n)
    ∙ at_same (λ p. suc (depth_within k new p)) (λ p. suc (depth_within k all p)) 0 (parent all n) (λ p. ap suc (depth_same k all new same p))

-- and stand in valid trees, if those do
pub same_trees : (all new : List Node) → SameLinks all new → AreTrees all → AreTrees new
unfolding depth
same_trees all new same trees = record {
  below = λ n. subst (All (λ c. c.0 < length new)) (sym (same.same_children n)) (All-weaker (λ c. c.0 < length all) (λ c. c.0 < length new) (λ c h. omega (arith, h, same.size)) (children all n) (trees.below n));
  agree = λ n. subst (All (λ c. parent new c ≡ Some n)) (sym (same.same_children n)) (All-weaker (λ c. parent all c ≡ Some n) (λ c. parent new c ≡ Some n) (λ c h. same.same_parent c ∙ h) (children all n) (trees.agree n));
  once = λ n p e. ap (count_by (λ c. eqb c.0 n.0)) (same.same_children p) ∙ trees.once n p (sym (same.same_parent n) ∙ e);
  ends = λ n. subst (λ (d : ℕ). d ≤ MOST_TREE_DEPTH) (sym (depth_same (suc MOST_TREE_DEPTH) all new same n)) (trees.ends n);
}

-- a node is replaced by one with the same links
pub links_set : (all : List Node) (n : NodeId) (node : Node) → node.children ≡ children all n → node.parent ≡ parent all n → SameLinks all (set_node all n node)
links_set all n node kids up = record {
  size = length-set all n.0 node;
  same_children = λ m. at_set (λ i x. x.children ≡ (get_or all i no_node).children) all n.0 m.0 node no_node kids refl;
  same_parent = λ m. at_set (λ i x. x.parent ≡ (get_or all i no_node).parent) all n.0 m.0 node no_node up refl;
}

-- valid nodes with another valid node, of the same links, are valid
pub node_set : (all : List Node) (n : NodeId) (node : Node) → AreNodes all → node.children ≡ children all n → node.parent ≡ parent all n → IsNode node → AreNodes (set_node all n node)
node_set all n node are kids up is = record {
  each = All-set IsNode all n.0 node is are.each;
  trees = same_trees all (set_node all n node) (links_set all n node kids up) are.trees;
  few = let size = length-set all n.0 node in let few = are.few in omega (arith, size, few);
}

-- Shapes alike.

-- the shapes are of the same kind and name, and roots of the same page
pub record IsAlike (old new : Shape) : Type 0 where
  pub kind : kind_of new ≡ kind_of old
  pub name : name_of new ≡ name_of old
  pub handlers : may_have_handlers new ≡ may_have_handlers old
  pub children : may_have_children new ≡ may_have_children old
  pub page : page_of new ≡ page_of old

-- a shape is like itself
pub alike_itself : (s : Shape) → IsAlike s s
alike_itself s = record { kind = refl; name = refl; handlers = refl; children = refl; page = refl }

-- a shape with another text is like it
pub with_text_alike : (s : Shape) (text : List ℕ) → IsAlike s (with_text s text)
with_text_alike (shape.Page page) text = alike_itself (shape.Page page)
with_text_alike other text = record { kind = refl; name = refl; handlers = refl; children = refl; page = refl }

-- so is one that was started
pub as_started_alike : (s : Shape) → IsAlike s (as_started s)
as_started_alike (shape.Page page) = alike_itself (shape.Page page)
as_started_alike other = record { kind = refl; name = refl; handlers = refl; children = refl; page = refl }

-- a node of another shape that is like the old one
pub reshaped : (node : Node) (s : Shape) → IsNode node → IsAlike node.shape s → IsShape s → IsNode (record node { shape = s })
reshaped node s is like spelled = record {
  shape = spelled;
  handlers = is.handlers;
  form = record {
    few_handlers = is.form.few_handlers;
    no_handlers = λ e. is.form.no_handlers (sym like.handlers ∙ e);
    no_children = λ e. is.form.no_children (sym like.children ∙ e);
    no_parent = λ h. is.form.no_parent (subst (λ (o : Option PageId). IsSome o) like.page h);
  };
}

with_text_spelled : (s : Shape) (text : List ℕ) → IsShape s → IsUtf8 text → IsShape (with_text s text)
with_text_spelled (shape.Text x old) text h is = (h.0, is)
with_text_spelled (shape.Link x url old) text h is = (h.0, h.1, is)
with_text_spelled (shape.TextBox x old) text h is = (h.0, is)
with_text_spelled (shape.Button x old) text h is = (h.0, is)
with_text_spelled other text h is = h

as_started_spelled : (s : Shape) → IsShape s → IsShape (as_started s)
as_started_spelled (shape.Page page) h = h
as_started_spelled other h = h

-- a node with another text
pub text_node : (node : Node) (text : List ℕ) → IsNode node → IsUtf8 text → IsNode (record node { shape = with_text node.shape text })
text_node node text is is_text = reshaped node (with_text node.shape text) is (with_text_alike node.shape text) (with_text_spelled node.shape text is.shape is_text)

-- a node that counts as started
pub started_node : (node : Node) → IsNode node → IsNode (record node { shape = as_started node.shape })
started_node node is = reshaped node (as_started node.shape) is (as_started_alike node.shape) (as_started_spelled node.shape is.shape)

-- Handlers.

-- a function of one parameter takes one
pub takes_one : (code : Code) (xs : List (List ℕ)) → code.params ≡ xs → length xs ≡ 1 → TakesOne code
takes_one code [] e h = absurd (omega (arith, h))
takes_one code (x ∷ []) e h = record { param = x; params = e }
takes_one code (x ∷ y ∷ xs) e h = absurd (omega (arith, h))

fits_kind : (a b : Bool) (o : Option Fault) → cond (not a) (Some fault.Kind) (cond (not b) (Some fault.Kind) o) ≡ None → (a ≡ true) × (b ≡ true) × (o ≡ None)
fits_kind true true o e = (refl, refl, e)
fits_kind true false o e = cc
fits_kind false b o e = cc

-- a limit that isn't reached
pub within : (b : Bool) → limit_unless b ≡ None → b ≡ true
within true e = refl
within false e = cc

-- a node with a handler more, where no fault forbids it
pub handler_node : (all : List Node) (n : NodeId) (code : Code) → IsNode (node_at all n) → IsWellSpelledCode code → handler_fault all n code ≡ None
    → IsNode (record (node_at all n) { handlers = (node_at all n).handlers ++ code ∷ [] })
handler_node all n code is spelled no_fault =
    let old = node_at all n in
    let fits = fits_kind (may_have_handlers old.shape) (length code.params == 1) _ no_fault in
    let few : length old.handlers < MOST_HANDLERS = ltb-true (length old.handlers) MOST_HANDLERS (within _ fits.2) in
    record {
      shape = is.shape;
      handlers = All-push IsHandler old.handlers code is.handlers (record { spelled = spelled; takes_one = takes_one code code.params refl (eqb-true (length code.params) 1 fits.1) });
      form = record {
        few_handlers = omega (arith, few, length-append old.handlers (code ∷ []));
        no_handlers = λ e. absurd (true≢false (sym fits.0 ∙ e));
        no_children = is.form.no_children;
        no_parent = is.form.no_parent;
      };
    }
