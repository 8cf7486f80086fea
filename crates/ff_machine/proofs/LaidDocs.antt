-- Documents that are spelled are laid as good nodes, within the height of their lists.
use Rattle.std.proofs.Common.{◌≡◌, ℕ, suc, ◌+◌, ◌<◌, ◌≤◌, max, false, Option, Some, None, List, [], ◌∷◌, map, length, All, IsSome, arith, refl, sym, subst, ap, ◌∙◌}
use Rattle.std.specs.List.{AllByRecursion}
use Rattle.std.proofs.lemmas.List.{length-map}
use Rattle.std.proofs.lemmas.List.Elements.{All-nil, All-cons, All-append, All-from_recursion}
use denote.Hole.Carrier
use denote.Hole.Holds.{Such}
use Rattle.ff_name.specs.declared.limits.TheConstants.{MOST_DEPTH}
use Rattle.ff_name.specs.declared.urls.Url.{Url}
use Rattle.ff_tree.specs.Spelled.{IsSpelledDoc, IsSpelledHandler, doc_depth, expr_depth, handler_depth, doc_nesting, expr_nesting, handler_nesting, most}
use Rattle.ff_tree.proofs.Layers.{IsSpelledHandler-out, IsSpelledDoc-Text, IsSpelledDoc-Link, IsSpelledDoc-TextBox, IsSpelledDoc-Button, IsSpelledDoc-Script, IsSpelledDoc-Src, IsSpelledDoc-Div}
use Rattle.ff_tree.specs.declared.tree.Doc.{Doc}
use Rattle.ff_tree.specs.declared.tree.Doc.TheVariants as doc
use Rattle.ff_tree.specs.declared.tree.Doc.TheBlock.{the_family, member-Doc, member-Expr, member-Handler}
use Rattle.ff_tree.specs.declared.tree.Doc.TheOpen.{Doc-F}
use Rattle.ff_tree.specs.declared.tree.Doc.TheViews.{roll-Doc, out-Doc}
use Rattle.ff_tree.specs.declared.tree.Doc.TheFolds.{ind-Doc, claims, map-Doc, fold_out-Doc, fold_out-Handler}
use Rattle.ff_tree.specs.declared.tree.Expr.{Expr}
use Rattle.ff_tree.specs.declared.tree.Handler.{Handler, out-Handler}
use Rattle.ff_tree.specs.declared.limits.TheConstants.{MOST_HANDLERS}
use Rattle.ff_name.specs.Spelling.{IsName}
use Rattle.ff_value.specs.declared.ids.ActId.{ActId}
use Rattle.ff_value.specs.declared.ids.NodeId.{NodeId}
use Rattle.ff_value.specs.declared.ids.PageId.{PageId}
use Rattle.ff_value.specs.declared.value.Code.{Code}
use Rattle.ff_machine.specs.declared.records.Shape.{Shape}
use Rattle.ff_machine.specs.declared.records.Shape.TheVariants as shape
use Rattle.ff_machine.specs.Shapes.{page_of, may_have_handlers}
use Rattle.ff_machine.specs.Nodes.{Node}
use Rattle.ff_machine.specs.Alone.{IsNode, IsShape, IsHandler}
use Rattle.ff_machine.specs.References.{Made, NodeRefers, ShapeRefers, CodeRefers}
use Rattle.ff_machine.specs.Documents.{Laid, laid, laid_page, handler_code, lay_all, lay_leaf, lay_over}
use Rattle.ff_machine.proofs.Laying.{laid-Text, laid-Link, laid-TextBox, laid-Button, laid-Script, laid-Src, laid-Div}
use Rattle.ff_machine.proofs.Parts.{IsLaid, leaf_laid, over_laid, laid_wider}

-- Induction over documents alone.

-- a fact of each form of a document, where a division's parts have it
pub record ByForms (P : Doc → Type 0) : Type 0 where
  pub text : (x text : List ℕ) → P (doc.Text x text)
  pub link : (x : List ℕ) (u : Url) (label : List ℕ) → P (doc.Link x u label)
  pub box : (x text : List ℕ) (hs : List Handler) → P (doc.TextBox x text hs)
  pub button : (x label : List ℕ) (hs : List Handler) → P (doc.Button x label hs)
  pub script : (x : List ℕ) (e : Expr) → P (doc.Script x e)
  pub src : (x : List ℕ) (u : Url) → P (doc.Src x u)
  pub div : (x : List ℕ) (ds : List Doc) → AllByRecursion P ds → P (doc.Div x ds)

each : {X Y : Type 0} (P : X → Type 0) (value : Y → X) → ((y : Y) → P (value y)) → (ys : List Y) → AllByRecursion P (map value ys)
each P value holds [] = tt
each P value holds (y ∷ ys) = (holds y, each P value holds ys)

module _ (P : Doc → Type 0) where
  abbrev Q : Expr → Type 0
  Q e = Unit {0}

  abbrev R : Handler → Type 0
  R h = Unit {0}

  layer : ByForms P
      → (y : Doc-F (Such the_family (claims P Q R) member-Doc) (Such the_family (claims P Q R) member-Expr) (Such the_family (claims P Q R) member-Handler))
      → P (roll-Doc (map-Doc (Such the_family (claims P Q R) member-Doc) (Such the_family (claims P Q R) member-Expr) (Such the_family (claims P Q R) member-Handler) Doc Expr Handler (λ e. e.0) (λ e. e.0) (λ e. e.0) y))
  unfolding roll-Doc denote.Hole.Carrier.roll
  layer by (Doc-F.Text x text) = by.text x text
  layer by (Doc-F.Link x u label) = by.link x u label
  layer by (Doc-F.TextBox x text hs) = by.box x text (map (λ e. e.0) hs)
  layer by (Doc-F.Button x label hs) = by.button x label (map (λ e. e.0) hs)
  layer by (Doc-F.Script x e) = by.script x e.0
  layer by (Doc-F.Src x u) = by.src x u
  layer by (Doc-F.Div x ds) = by.div x (map (λ e. e.0) ds) (each P (λ e. e.0) (λ e. e.1) ds)

  -- then each document has it
  pub by_forms : ByForms P → (d : Doc) → P d
  by_forms by = ind-Doc P Q R (λ x y e. subst (λ l. P (roll-Doc l)) e (layer by y)) (λ x y e. tt) (λ x y e. tt)

-- Depths.

doc_form : (d : Doc) (x : Doc-F Doc Expr Handler) → out-Doc d ≡ x → doc_depth d ≡ doc_nesting (map-Doc Doc Expr Handler ℕ ℕ ℕ doc_depth expr_depth handler_depth x)
doc_form d x e = fold_out-Doc ℕ ℕ ℕ doc_nesting expr_nesting handler_nesting d ∙ ap (λ y. doc_nesting (map-Doc Doc Expr Handler ℕ ℕ ℕ doc_depth expr_depth handler_depth y)) e

depth-TextBox : (x text : List ℕ) (hs : List Handler) → doc_depth (doc.TextBox x text hs) ≡ 1 + most (map handler_depth hs)
depth-TextBox x text hs = doc_form (doc.TextBox x text hs) (Doc-F.TextBox x text hs) (doc.outs-TextBox x text hs)

depth-Button : (x label : List ℕ) (hs : List Handler) → doc_depth (doc.Button x label hs) ≡ 1 + most (map handler_depth hs)
depth-Button x label hs = doc_form (doc.Button x label hs) (Doc-F.Button x label hs) (doc.outs-Button x label hs)

depth-Script : (x : List ℕ) (e : Expr) → doc_depth (doc.Script x e) ≡ 1 + expr_depth e
depth-Script x e = doc_form (doc.Script x e) (Doc-F.Script x e) (doc.outs-Script x e)

pub depth-Div : (x : List ℕ) (ds : List Doc) → doc_depth (doc.Div x ds) ≡ suc (most (map doc_depth ds))
depth-Div x ds = doc_form (doc.Div x ds) (Doc-F.Div x ds) (doc.outs-Div x ds) ∙ one_more (most (map doc_depth ds)) where
  one_more : (n : ℕ) → 1 + n ≡ suc n
  one_more n = omega arith

depth-Handler : (h : Handler) → handler_depth h ≡ 1 + max 1 (expr_depth (out-Handler h).body)
depth-Handler h = fold_out-Handler ℕ ℕ ℕ doc_nesting expr_nesting handler_nesting h

-- Trees.

-- documents that are laid within their depths are laid within the greatest
laid_in_most : (env : ActId) (ds : List Doc) (k : ℕ) → most (map doc_depth ds) ≤ k → AllByRecursion (λ d. IsLaid (laid env d) (doc_depth d)) ds → AllByRecursion (λ l. IsLaid l k) (map (laid env) ds)
laid_in_most env [] k le each = tt
laid_in_most env (d ∷ ds) k le each = (
  laid_wider (laid env d) (doc_depth d) k (grind (arith, le)) each.0,
  laid_in_most env ds k (grind (arith, le)) each.1,
)

-- a document is laid within the depth of its lists
pub doc_laid : (env : ActId) (d : Doc) → IsLaid (laid env d) (doc_depth d)
doc_laid env = by_forms (λ d. IsLaid (laid env d) (doc_depth d)) (record {
  text = λ x text. leaf (doc.Text x text) _ _ (laid-Text env x text);
  link = λ x u label. leaf (doc.Link x u label) _ _ (laid-Link env x u label);
  box = λ x text hs. leaf (doc.TextBox x text hs) _ _ (laid-TextBox env x text hs);
  button = λ x label hs. leaf (doc.Button x label hs) _ _ (laid-Button env x label hs);
  script = λ x e. leaf (doc.Script x e) _ _ (laid-Script env x e);
  src = λ x u. leaf (doc.Src x u) _ _ (laid-Src env x u);
  div = λ x ds parts. subst (λ l. IsLaid l (doc_depth (doc.Div x ds))) (sym (laid-Div env x ds))
      (subst (IsLaid (lay_over (shape.Div x) (map (laid env) ds))) (sym (depth-Div x ds)) (over_laid (shape.Div x) (most (map doc_depth ds)) (map (laid env) ds) (laid_in_most env ds (most (map doc_depth ds)) (omega arith) parts)));
})
  where
    leaf : (d : Doc) (s : _) (hs : _) → laid env d ≡ lay_leaf s hs → IsLaid (laid env d) (doc_depth d)
    leaf d s hs e = subst (λ l. IsLaid l (doc_depth d)) (sym e) (laid_wider (lay_leaf s hs) 0 (doc_depth d) (omega arith) (leaf_laid s hs))

-- a page is laid one above its documents
pub page_laid : (page : PageId) (env : ActId) (ds : List Doc) → IsLaid (laid_page page env ds) (suc (most (map doc_depth ds)))
page_laid page env ds = over_laid (shape.Page page) (most (map doc_depth ds)) (map (laid env) ds) (laid_in_most env ds (most (map doc_depth ds)) (omega arith) (every ds)) where
  every : (ds : List Doc) → AllByRecursion (λ d. IsLaid (laid env d) (doc_depth d)) ds
  every [] = tt
  every (d ∷ ds) = (doc_laid env d, every ds)

-- Nodes.

-- a node that is valid, refers to what was made and is the root of no page
pub record IsGood (m : Made) (n : Node) : Type 0 where
  pub node : IsNode n
  pub refers : NodeRefers m n
  pub inner : page_of n.shape ≡ None

-- what is laid has good nodes only, wherever they stand
abbrev pub HasGood : Made → Laid → Type 0
HasGood m d = (first : ℕ) (under : Option NodeId) → All (IsGood m) (d.nodes first under)

module _ (m : Made) where
  -- a leaf, whose handlers are few and of a kind that has them
  leaf_good : (s : Shape) (handlers : List Code) → IsShape s → page_of s ≡ None → All IsHandler handlers → All (CodeRefers m) handlers → length handlers ≤ MOST_HANDLERS → (may_have_handlers s ≡ false → handlers ≡ []) → HasGood m (lay_leaf s handlers)
  leaf_good s handlers spelled no_page are refer few none first under = All-cons (IsGood m) _ [] (record {
    node = record {
      shape = spelled;
      handlers = are;
      form = record { few_handlers = few; no_handlers = none; no_children = λ _. refl; no_parent = λ some. absurd (not_some s no_page some) };
    };
    refers = record { shape = shape_refers s no_page; handlers = refer };
    inner = no_page;
  }) (All-nil (IsGood m))
    where
      not_some : (s : Shape) → page_of s ≡ None → IsSome (page_of s) → ⊥
      not_some s none some = let no : IsSome {T = PageId} None = subst (λ (o : Option PageId). IsSome o) none some in cc

      shape_refers : (s : Shape) → page_of s ≡ None → ShapeRefers m s
      shape_refers (shape.Page page) none = cc
      shape_refers other none = tt

  pub all_good : (ds : List Laid) → AllByRecursion (HasGood m) ds → (first : ℕ) (under : Option NodeId) → All (IsGood m) (lay_all ds first under)
  all_good [] parts first under = All-nil (IsGood m)
  all_good (d ∷ ds) parts first under = All-append (IsGood m) (d.nodes first under) (lay_all ds (first + d.size) under) (parts.0 first under) (all_good ds parts.1 (first + d.size) under)

  div_good : (x : List ℕ) (ds : List Laid) → IsName x → AllByRecursion (HasGood m) ds → HasGood m (lay_over (shape.Div x) ds)
  div_good x ds name parts first under = All-cons (IsGood m) _ (lay_all ds (suc first) (Some (record { 0 = first }))) (record {
    node = record {
      shape = name;
      handlers = All-nil IsHandler;
      form = record { few_handlers = omega arith; no_handlers = λ _. refl; no_children = λ no. cc; no_parent = λ some. cc };
    };
    refers = record { shape = tt; handlers = All-nil (CodeRefers m) };
    inner = refl;
  }) (all_good ds parts (suc first) (Some (record { 0 = first })))

-- Spelled documents.

module _ (m : Made) (env : ActId) (there : env.0 < m.acts) where
  -- a spelled handler is a function that is valid
  handler_is : (h : Handler) → IsSpelledHandler h → handler_depth h ≤ MOST_DEPTH → IsHandler (handler_code env h)
  handler_is h spelled shallow =
      let parts = subst (λ T. T) (IsSpelledHandler-out h) spelled in
      let deep = depth-Handler h in
      record {
        spelled = record {
          params = record { vars = (parts.0, tt); differ = (tt, tt) };
          body = record { spelled = parts.1; shallow = grind (arith, deep, shallow) };
        };
        takes_one = record { param = (out-Handler h).param; params = refl };
      }

  handlers_are : (hs : List Handler) → AllByRecursion IsSpelledHandler hs → most (map handler_depth hs) ≤ MOST_DEPTH → AllByRecursion IsHandler (map (handler_code env) hs)
  handlers_are [] spelled shallow = tt
  handlers_are (h ∷ hs) spelled shallow = (handler_is h spelled.0 (grind (arith, shallow)), handlers_are hs spelled.1 (grind (arith, shallow)))

  handlers_refer : (hs : List Handler) → AllByRecursion (CodeRefers m) (map (handler_code env) hs)
  handlers_refer [] = tt
  handlers_refer (h ∷ hs) = (there, handlers_refer hs)

  with_handlers : (s : Shape) (hs : List Handler) → IsShape s → page_of s ≡ None → AllByRecursion IsSpelledHandler hs → length hs ≤ MOST_HANDLERS → most (map handler_depth hs) ≤ MOST_DEPTH → (may_have_handlers s ≡ false → map (handler_code env) hs ≡ []) → HasGood m (lay_leaf s (map (handler_code env) hs))
  with_handlers s hs shape_is no_page spelled few shallow none =
      leaf_good m s (map (handler_code env) hs) shape_is no_page
      (All-from_recursion IsHandler (map (handler_code env) hs) (handlers_are hs spelled shallow))
      (All-from_recursion (CodeRefers m) (map (handler_code env) hs) (handlers_refer hs))
      (subst (λ k. k ≤ MOST_HANDLERS) (sym (length-map hs (handler_code env))) few) none

  plain : (s : Shape) → IsShape s → page_of s ≡ None → HasGood m (lay_leaf s [])
  plain s shape_is no_page = leaf_good m s [] shape_is no_page (All-nil IsHandler) (All-nil (CodeRefers m)) (omega arith) (λ _. refl)

  -- a spelled document is good as nodes
  abbrev Good : Doc → Type 0
  Good d = IsSpelledDoc d → doc_depth d ≤ MOST_DEPTH → HasGood m (laid env d)

  parts_good : (ds : List Doc) → AllByRecursion Good ds → AllByRecursion IsSpelledDoc ds → most (map doc_depth ds) ≤ MOST_DEPTH → AllByRecursion (HasGood m) (map (laid env) ds)
  parts_good [] good spelled shallow = tt
  parts_good (d ∷ ds) good spelled shallow = (good.0 spelled.0 (grind (arith, shallow)), parts_good ds good.1 spelled.1 (grind (arith, shallow)))

  pub doc_good : (d : Doc) → Good d
  doc_good = by_forms Good (record {
    text = λ x text spelled shallow. let is = subst (λ T. T) (IsSpelledDoc-Text x text) spelled in subst (HasGood m) (sym (laid-Text env x text)) (plain (shape.Text x text) is refl);
    link = λ x u label spelled shallow. let is = subst (λ T. T) (IsSpelledDoc-Link x u label) spelled in subst (HasGood m) (sym (laid-Link env x u label)) (plain (shape.Link x u label) is refl);
    box = λ x text hs spelled shallow.
        let is = subst (λ T. T) (IsSpelledDoc-TextBox x text hs) spelled in
        let deep = depth-TextBox x text hs in
        subst (HasGood m) (sym (laid-TextBox env x text hs)) (with_handlers (shape.TextBox x text) hs (is.0, is.1) refl is.3 is.2 (omega (arith, deep, shallow)) (λ no. cc));
    button = λ x label hs spelled shallow.
        let is = subst (λ T. T) (IsSpelledDoc-Button x label hs) spelled in
        let deep = depth-Button x label hs in
        subst (HasGood m) (sym (laid-Button env x label hs)) (with_handlers (shape.Button x label) hs (is.0, is.1) refl is.3 is.2 (omega (arith, deep, shallow)) (λ no. cc));
    script = λ x e spelled shallow.
        let is = subst (λ T. T) (IsSpelledDoc-Script x e) spelled in
        let deep = depth-Script x e in
        subst (HasGood m) (sym (laid-Script env x e)) (plain (shape.Script x false e) (is.0, record { spelled = is.1; shallow = omega (arith, deep, shallow) }) refl);
    src = λ x u spelled shallow. let is = subst (λ T. T) (IsSpelledDoc-Src x u) spelled in subst (HasGood m) (sym (laid-Src env x u)) (plain (shape.Src x false u) is refl);
    div = λ x ds parts spelled shallow.
        let is = subst (λ T. T) (IsSpelledDoc-Div x ds) spelled in
        let deep = depth-Div x ds in
        subst (HasGood m) (sym (laid-Div env x ds)) (div_good m x (map (laid env) ds) is.0 (parts_good ds parts is.1 (omega (arith, deep, shallow))));
  })
