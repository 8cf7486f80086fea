-- The parents of the nodes that documents become stand before them.
use Rattle.std.proofs.Common.{◌≡◌, ℕ, zero, suc, ◌+◌, ◌-◌, ◌<◌, ◌≤◌, Option, Some, None, List, [], ◌∷◌, ◌++◌, map, length, get_or, arith, sym, subst, ap, ◌∙◌}
use Rattle.std.specs.List.{AllByRecursion}
use Rattle.std.proofs.lemmas.List.{get_or-append-add}
use Rattle.ff_tree.specs.declared.tree.Doc.{Doc}
use Rattle.ff_tree.specs.declared.tree.Doc.TheVariants as doc
use Rattle.ff_value.specs.declared.ids.ActId.{ActId}
use Rattle.ff_value.specs.declared.ids.NodeId.{NodeId}
use Rattle.ff_value.specs.declared.ids.PageId.{PageId}
use Rattle.ff_value.specs.declared.value.Code.{Code}
use Rattle.ff_machine.specs.declared.records.Shape.{Shape}
use Rattle.ff_machine.specs.declared.records.Shape.TheVariants as shape
use Rattle.ff_machine.specs.Nodes.{Node, no_node}
use Rattle.ff_machine.specs.Documents.{Laid, laid, laid_page, lay_all, lay_leaf, lay_over}
use Rattle.ff_machine.proofs.Laying.{laid-Text, laid-Link, laid-TextBox, laid-Button, laid-Script, laid-Src, laid-Div}
use Rattle.ff_machine.proofs.LaidDocs.{by_forms, doc_laid}
use Rattle.ff_nodes.specs.Raised.{ArePast}

-- the parent is from a number on, and before another one
abbrev IsUp : ℕ → ℕ → Option NodeId → Type 0
IsUp first next under = (p : NodeId) → under ≡ Some p → (first ≤ p.0) × (p.0 < next)

-- the parent of each node is from a number on and before the node, where the first node has the
-- other number
abbrev pub AreUp : ℕ → ℕ → List Node → Type 0
AreUp first next [] = Unit {0}
AreUp first next (n ∷ ns) = IsUp first next n.parent × AreUp first (suc next) ns

-- what is laid has as many nodes as its size, and their parents stand before them
pub record HasUp (d : Laid) : Type 0 where
  pub sized : (first : ℕ) (under : Option NodeId) → length (d.nodes first under) ≡ d.size
  pub up : (first next : ℕ) (under : Option NodeId) → first ≤ next → IsUp first next under → AreUp first next (d.nodes next under)

up_beside : (first next : ℕ) (xs ys : List Node) → AreUp first next xs → AreUp first (next + length xs) ys → AreUp first next (xs ++ ys)
up_beside first next [] ys left right = let e : next + 0 ≡ next = omega arith in subst (λ k. AreUp first k ys) e right
up_beside first next (x ∷ xs) ys left right =
    let e : next + suc (length xs) ≡ suc next + length xs = omega arith in
    (left.0, up_beside first (suc next) xs ys left.1 (subst (λ k. AreUp first k ys) e right))

up_later : (first next more : ℕ) (under : Option NodeId) → IsUp first next under → IsUp first (next + more) under
up_later first next more under up p e = let is = up p e in (is.0, let less = is.1 in omega (arith, less))

all_up : (ds : List Laid) → AllByRecursion HasUp ds → (first next : ℕ) (under : Option NodeId) → first ≤ next → IsUp first next under → AreUp first next (lay_all ds next under)
all_up [] each first next under le up = tt
all_up (d ∷ ds) each first next under le up =
    let here = each.0 in
    let rest = all_up ds each.1 first (next + d.size) under (omega (arith, le)) (up_later first next d.size under up) in
    up_beside first next (d.nodes next under) (lay_all ds (next + d.size) under) (here.up first next under le up)
    (subst (λ k. AreUp first (next + k) (lay_all ds (next + d.size) under)) (sym (here.sized next under)) rest)

-- a node before another one
before : (first next : ℕ) → first ≤ next → IsUp first (suc next) (Some (record { 0 = next }))
before first next le p e =
    let at : NodeId = record { 0 = next } in
    let same : at ≡ p = cc in
    subst (λ (q : NodeId). (first ≤ q.0) × (q.0 < suc next)) same (le, omega arith)

over_up : (s : Shape) (ds : List Laid) → AllByRecursion HasUp ds → (first next : ℕ) (under : Option NodeId) → first ≤ next → IsUp first next under → AreUp first next ((lay_over s ds).nodes next under)
over_up s ds each first next under le up = (up, all_up ds each first (suc next) (Some (record { 0 = next })) (omega (arith, le)) (before first next le))

module _ (env : ActId) where
  abbrev Up : Doc → Type 0
  Up d = (first next : ℕ) (under : Option NodeId) → first ≤ next → IsUp first next under → AreUp first next ((laid env d).nodes next under)

  has : (d : Doc) → Up d → HasUp (laid env d)
  has d up = record { sized = (doc_laid env d).sized; up = up }

  parts_up : (ds : List Doc) → AllByRecursion Up ds → AllByRecursion HasUp (map (laid env) ds)
  parts_up [] each = tt
  parts_up (d ∷ ds) each = (has d each.0, parts_up ds each.1)

  leaf : (d : Doc) (s : Shape) (hs : List Code) → laid env d ≡ lay_leaf s hs → Up d
  leaf d s hs e first next under le up = subst (λ (l : Laid). AreUp first next (l.nodes next under)) (sym e) (up, tt)

  doc_up : (d : Doc) → Up d
  doc_up = by_forms Up (record {
    text = λ x text. leaf (doc.Text x text) _ _ (laid-Text env x text);
    link = λ x u label. leaf (doc.Link x u label) _ _ (laid-Link env x u label);
    box = λ x text hs. leaf (doc.TextBox x text hs) _ _ (laid-TextBox env x text hs);
    button = λ x label hs. leaf (doc.Button x label hs) _ _ (laid-Button env x label hs);
    script = λ x e. leaf (doc.Script x e) _ _ (laid-Script env x e);
    src = λ x u. leaf (doc.Src x u) _ _ (laid-Src env x u);
    div = λ x ds parts first next under le up. subst (λ (l : Laid). AreUp first next (l.nodes next under)) (sym (laid-Div env x ds)) (over_up (shape.Div x) (map (laid env) ds) (parts_up ds parts) first next under le up);
  })

  -- so stand those of each document
  pub doc_has : (d : Doc) → HasUp (laid env d)
  doc_has d = has d (doc_up d)

  -- and those of each of some documents
  pub docs_have : (ds : List Doc) → AllByRecursion HasUp (map (laid env) ds)
  docs_have [] = tt
  docs_have (d ∷ ds) = (doc_has d, docs_have ds)

  no_parent : (first next : ℕ) → IsUp first next None
  no_parent first next p e = cc

  -- the nodes of a document, made as a tree
  pub tree_up : (d : Doc) (first : ℕ) → AreUp first first ((laid env d).nodes first None)
  tree_up d first = doc_up d first first None (omega arith) (no_parent first first)

  -- and those of a page
  pub page_up : (page : PageId) (ds : List Doc) (first : ℕ) → AreUp first first ((laid_page page env ds).nodes first None)
  page_up page ds first = over_up (shape.Page page) (map (laid env) ds) (docs_have ds) first first None (omega arith) (no_parent first first)

up_at : (first next : ℕ) (ns : List Node) (i : ℕ) → AreUp first next ns → (p : NodeId) → (get_or ns i no_node).parent ≡ Some p → (first ≤ p.0) × (p.0 < next + i)
up_at first next [] i up p e = cc
up_at first next (n ∷ ns) zero up p e = let is = up.0 p e in (is.0, let less = is.1 in omega (arith, less))
up_at first next (n ∷ ns) (suc i) up p e = let is = up_at first (suc next) ns i up.1 p e in (is.0, let less = is.1 in omega (arith, less))

-- nodes whose parents stand before them, behind others
pub are_past : (nodes ns : List Node) → AreUp (length nodes) (length nodes) ns → ArePast (length nodes) (nodes ++ ns)
are_past nodes ns up n p le e =
    let i = n.0 - length nodes in
    let there : length nodes + i ≡ n.0 = omega (arith, le) in
    let at : get_or (nodes ++ ns) n.0 no_node ≡ get_or ns i no_node = ap (λ k. get_or (nodes ++ ns) k no_node) (sym there) ∙ get_or-append-add nodes ns i no_node in
    let is = up_at (length nodes) (length nodes) ns i up p (ap (λ (m : Node). m.parent) (sym at) ∙ e) in
    (is.0, let less = is.1 in omega (arith, less, there))
