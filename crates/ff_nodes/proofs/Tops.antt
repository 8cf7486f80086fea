-- Documents below whose topmost node there is nothing.
use Rattle.std.proofs.Common.{◌≡◌, ℕ, List, refl, sym, ap, ◌∙◌}
use Rattle.ff_tree.specs.declared.tree.Doc.{Doc}
use Rattle.ff_tree.specs.declared.tree.Doc.TheVariants as doc
use Rattle.ff_tree.specs.declared.tree.Expr.{Expr}
use Rattle.ff_tree.specs.declared.tree.Handler.{Handler}
use Rattle.ff_tree.specs.declared.tree.Doc.TheOpen.{Doc-F}
use Rattle.ff_tree.specs.declared.tree.Doc.TheViews.{out-Doc, roll-Doc, roll-out-Doc}
use Rattle.ff_value.specs.declared.ids.ActId.{ActId}
use Rattle.ff_machine.specs.Documents.{laid, lay_leaf}
use Rattle.ff_machine.proofs.Laying.{laid_form, laid-form}
use Rattle.ff_nodes.specs.Laying.{top_shape, top_handlers}

form_alone : (env : ActId) (x : Doc-F Doc Expr Handler) → ((n : List ℕ) (docs : List Doc) → x ≡ Doc-F.Div n docs → ⊥) → laid_form env x ≡ lay_leaf (top_shape x) (top_handlers env x)
form_alone env (Doc-F.Text x text) h = refl
form_alone env (Doc-F.Link x url label) h = refl
form_alone env (Doc-F.TextBox x text handlers) h = refl
form_alone env (Doc-F.Button x label handlers) h = refl
form_alone env (Doc-F.Script x e) h = refl
form_alone env (Doc-F.Src x url) h = refl
form_alone env (Doc-F.Div x docs) h = absurd (h x docs refl)

-- a document that is no division is laid as its topmost node alone
pub alone_laid : (env : ActId) (d : Doc) → ((n : List ℕ) (docs : List Doc) → d ≡ doc.Div n docs → ⊥) → laid env d ≡ lay_leaf (top_shape (out-Doc d)) (top_handlers env (out-Doc d))
unfolding roll-Doc denote.Hole.Carrier.roll
alone_laid env d h = laid-form env d ∙ form_alone env (out-Doc d) (λ n docs e. h n docs (sym (roll-out-Doc d) ∙ ap roll-Doc e))
