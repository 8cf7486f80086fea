-- Parts of stores that are valid together.
use Rattle.std.proofs.Common.{◌≡◌, ◌<◌, ◌≤◌, ◌↔◌, ⊎_elim, ◌==◌, Option, Some, None, IsTrue, List, length, sym, ap, subst, ◌∙◌, arith}
use Rattle.std.proofs.lemmas.Bool.{cases_lt, eqb-true, eq-eqb}
use Rattle.std.proofs.lemmas.List.{get_or_past}
use Rattle.ff_value.specs.declared.ids.NodeId.{NodeId}
use Rattle.ff_value.specs.declared.ids.PageId.{PageId}
use Rattle.ff_machine.specs.declared.records.Shape.{Shape}
use Rattle.ff_machine.specs.declared.records.Shape.TheVariants as shape
use Rattle.ff_machine.specs.Shapes.{page_of}
use Rattle.ff_machine.specs.Nodes.{Node, no_node, node_at}
use Rattle.ff_machine.specs.Windows as windows
use Rattle.ff_machine.specs.References.{Made, ShapeRefers, StoresRefer, made}
use Rattle.ff_machine.proofs.Empty.{empty_valid}
use Rattle.ff_stores.specs.Restored.{Parts, untouched, made_of, DoRefer, RootsLive}

none_some : {A : Type 0} {x : A} → None ≡ Some x → ⊥
none_some e = cc

-- the root of a page
pub page_shape : (s : Shape) (p : PageId) → page_of s ≡ Some p → s ≡ shape.Page p
page_shape (shape.Page q) p e = ap shape.Page (let same : q ≡ p = cc in same)
page_shape (shape.Text x text) p e = absurd (none_some e)
page_shape (shape.Link x url text) p e = absurd (none_some e)
page_shape (shape.TextBox x text) p e = absurd (none_some e)
page_shape (shape.Button x text) p e = absurd (none_some e)
page_shape (shape.Script x started body) p e = absurd (none_some e)
page_shape (shape.Src x started url) p e = absurd (none_some e)
page_shape (shape.Div x) p e = absurd (none_some e)

pub same_page : (s : Shape) (o : Option PageId) (found page : PageId) → o ≡ page_of s → o ≡ Some found → IsTrue (found.0 == page.0) ↔ (s ≡ shape.Page page)
same_page s o found page is some = (
  λ yes. page_shape s found (sym is ∙ some) ∙ ap (λ k. let p : PageId = record { 0 = k } in shape.Page p) (eqb-true found.0 page.0 yes),
  λ e. eq-eqb found.0 page.0 (let both : Some found ≡ Some page = sym some ∙ is ∙ ap page_of e in let same : found ≡ page = cc in ap (λ (p : PageId). p.0) same),
)

pub no_page : (s : Shape) (o : Option PageId) (page : PageId) → o ≡ page_of s → o ≡ None → s ≡ shape.Page page → ⊥
no_page s o page is none e = none_some (sym none ∙ is ∙ ap page_of e)

no_page_past : (nodes : List Node) (n : NodeId) (q : PageId) → length nodes ≤ n.0 → (node_at nodes n).shape ≡ shape.Page q → ⊥
no_page_past nodes n q past e = none_some (ap page_of (sym (ap (λ (m : Node). m.shape) (get_or_past nodes n.0 no_node past)) ∙ e))

-- what refers in parts refers in the stores of them
pub stores_refer : (p : Parts) → DoRefer p.nodes p.windows p.requests → StoresRefer (made (untouched p)) (untouched p)
stores_refer p refs = record {
  nodes = refs.nodes_do;
  pages = refs.pages_do;
  acts = refs.acts_do;
  requests = refs.requests_do;
  touched = λ page is. absurd (omega (arith, empty_valid.refer.touched page is));
}

page_made : (m : Made) (s : Shape) (q : PageId) → s ≡ shape.Page q → ShapeRefers m s → q.0 < m.pages
page_made m s q e refers = subst (ShapeRefers m) e refers

pub roots_live : (p : Parts) → DoRefer p.nodes p.windows p.requests → RootsLive p.nodes p.windows.pages
roots_live p refs = record {
  pages_do = λ q less. (refs.pages_do q.0 windows.no_page less).root;
  nodes_do = λ n q e. ⊎_elim
      (λ below. page_made (made_of p.nodes p.windows) (node_at p.nodes n).shape q e (refs.nodes_do n.0 no_node below).shape)
      (λ past. absurd (no_page_past p.nodes n q past e))
      (cases_lt n.0 (length p.nodes));
}
