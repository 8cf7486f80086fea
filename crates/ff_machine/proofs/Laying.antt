-- Documents as nodes, by their forms.
use Rattle.std.proofs.Common.{◌≡◌, ℕ, false, List, [], ◌∷◌, map, refl, sym, ap, ◌∙◌}
use Rattle.ff_name.specs.declared.urls.Url.{Url}
use Rattle.ff_tree.specs.declared.tree.Doc.{Doc}
use Rattle.ff_tree.specs.declared.tree.Doc.TheVariants as doc
use Rattle.ff_tree.specs.declared.tree.Expr.{Expr}
use Rattle.ff_tree.specs.declared.tree.Handler.{Handler, out-roll-Handler}
use Rattle.ff_tree.specs.declared.tree.Doc.TheOpen.{Doc-F}
use Rattle.ff_tree.specs.declared.tree.Doc.TheViews.{out-Doc, roll-out-Doc, roll-Handler}
use Rattle.ff_tree.specs.declared.tree.Doc.TheFolds.{map-Doc, para-roll-Doc}
use Rattle.ff_value.specs.declared.ids.ActId.{ActId}
use Rattle.ff_machine.specs.declared.records.Shape.TheVariants as shape
use Rattle.ff_machine.specs.Documents.{Laid, lay_leaf, lay_over, lay_doc, laid, handler_code}

module _ (env : ActId) where
  -- a document by its form, whose parts are laid
  abbrev pub laid_form : Doc-F Doc Expr Handler → Laid
  laid_form (Doc-F.Text x text) = lay_leaf (shape.Text x text) []
  laid_form (Doc-F.Link x url label) = lay_leaf (shape.Link x url label) []
  laid_form (Doc-F.TextBox x text handlers) = lay_leaf (shape.TextBox x text) (map (handler_code env) handlers)
  laid_form (Doc-F.Button x label handlers) = lay_leaf (shape.Button x label) (map (handler_code env) handlers)
  laid_form (Doc-F.Script x e) = lay_leaf (shape.Script x false e) []
  laid_form (Doc-F.Src x url) = lay_leaf (shape.Src x false url) []
  laid_form (Doc-F.Div x docs) = lay_over (shape.Div x) (map (laid env) docs)

  codes_of : (hs : List Handler) → map (λ (h : Handler × Unit {0}). handler_code env h.0) (map (λ h. (h, tt)) hs) ≡ map (handler_code env) hs
  codes_of [] = refl
  codes_of (h ∷ hs) = ap (λ cs. handler_code env h ∷ cs) (codes_of hs)

  laid_of : (ds : List Doc) → map (λ (d : Doc × Laid). d.1) (map (λ d. (d, laid env d)) ds) ≡ map (laid env) ds
  laid_of [] = refl
  laid_of (d ∷ ds) = ap (λ ls. laid env d ∷ ls) (laid_of ds)

  beside : Doc-F Doc Expr Handler → Doc-F (Doc × Laid) (Expr × Unit {0}) (Handler × Unit {0})
  beside x = map-Doc Doc Expr Handler (Doc × Laid) (Expr × Unit {0}) (Handler × Unit {0}) (λ d. (d, laid env d)) (λ e. (e, tt)) (λ h. (h, tt)) x

  form_is : (x : Doc-F Doc Expr Handler) → lay_doc env (beside x) ≡ laid_form x
  unfolding beside
  form_is (Doc-F.Text x text) = refl
  form_is (Doc-F.Link x url label) = refl
  form_is (Doc-F.TextBox x text handlers) = ap (lay_leaf (shape.TextBox x text)) (codes_of handlers)
  form_is (Doc-F.Button x label handlers) = ap (lay_leaf (shape.Button x label)) (codes_of handlers)
  form_is (Doc-F.Script x e) = refl
  form_is (Doc-F.Src x url) = refl
  form_is (Doc-F.Div x docs) = ap (lay_over (shape.Div x)) (laid_of docs)

  -- a document is laid as its form says
  pub laid-form : (d : Doc) → laid env d ≡ laid_form (out-Doc d)
  unfolding beside
  laid-form d =
      ap (laid env) (sym (roll-out-Doc d))
      ∙ para-roll-Doc Laid (Unit {0}) (Unit {0}) (lay_doc env) (λ _. tt) (λ _. tt) (out-Doc d)
      ∙ form_is (out-Doc d)

  by_form : (d : Doc) (x : Doc-F Doc Expr Handler) → out-Doc d ≡ x → laid env d ≡ laid_form x
  by_form d x e = laid-form d ∙ ap laid_form e

  -- each form of a document
  pub laid-Text : (x text : List ℕ) → laid env (doc.Text x text) ≡ lay_leaf (shape.Text x text) []
  laid-Text x text = by_form (doc.Text x text) (Doc-F.Text x text) (doc.outs-Text x text)

  pub laid-Link : (x : List ℕ) (url : Url) (label : List ℕ) → laid env (doc.Link x url label) ≡ lay_leaf (shape.Link x url label) []
  laid-Link x url label = by_form (doc.Link x url label) (Doc-F.Link x url label) (doc.outs-Link x url label)

  pub laid-TextBox : (x text : List ℕ) (hs : List Handler) → laid env (doc.TextBox x text hs) ≡ lay_leaf (shape.TextBox x text) (map (handler_code env) hs)
  laid-TextBox x text hs = by_form (doc.TextBox x text hs) (Doc-F.TextBox x text hs) (doc.outs-TextBox x text hs)

  pub laid-Button : (x label : List ℕ) (hs : List Handler) → laid env (doc.Button x label hs) ≡ lay_leaf (shape.Button x label) (map (handler_code env) hs)
  laid-Button x label hs = by_form (doc.Button x label hs) (Doc-F.Button x label hs) (doc.outs-Button x label hs)

  pub laid-Script : (x : List ℕ) (e : Expr) → laid env (doc.Script x e) ≡ lay_leaf (shape.Script x false e) []
  laid-Script x e = by_form (doc.Script x e) (Doc-F.Script x e) (doc.outs-Script x e)

  pub laid-Src : (x : List ℕ) (url : Url) → laid env (doc.Src x url) ≡ lay_leaf (shape.Src x false url) []
  laid-Src x url = by_form (doc.Src x url) (Doc-F.Src x url) (doc.outs-Src x url)

  pub laid-Div : (x : List ℕ) (ds : List Doc) → laid env (doc.Div x ds) ≡ lay_over (shape.Div x) (map (laid env) ds)
  laid-Div x ds = by_form (doc.Div x ds) (Doc-F.Div x ds) (doc.outs-Div x ds)

  -- a handler is a function of its parameter and its body
  pub handler-code : (x : List ℕ) (e : Expr) → handler_code env (roll-Handler (record { param = x; body = e })) ≡ record { params = x ∷ []; body = e; env = env }
  handler-code x e = ap (λ h. record { params = h.param ∷ []; body = h.body; env = env }) (out-roll-Handler (record { param = x; body = e }))
