-- What is printed is read back.
use Rattle.std.specs.Prelude.{ℕ, List, [], ◌∷◌}
use Rattle.ff_text.specs.Notation.{SpellsItems}
use Rattle.ff_text.specs.declared.items.Sexp.{Sexp}
use Rattle.ff_tree.specs.declared.tree.Doc.{Doc}
use Rattle.ff_tree.specs.declared.tree.Expr.{Expr}
use Rattle.ff_value.specs.declared.reply.Resp.{Resp}
use Rattle.ff_forms.specs.Spellings.{SpellsDoc, SpellsExpr, SpellsResp}

-- the bytes spell one item, and that spells the document
pub record ReadsBackDoc (bytes : List ℕ) (doc : Doc) : Type 0 where
  pub item : Sexp
  pub spells : SpellsItems bytes (item ∷ [])
  pub value : SpellsDoc item doc

-- the same of an expression
pub record ReadsBackExpr (bytes : List ℕ) (expr : Expr) : Type 0 where
  pub item : Sexp
  pub spells : SpellsItems bytes (item ∷ [])
  pub value : SpellsExpr item expr

-- the same of a response
pub record ReadsBackResp (bytes : List ℕ) (resp : Resp) : Type 0 where
  pub item : Sexp
  pub spells : SpellsItems bytes (item ∷ [])
  pub value : SpellsResp item resp
