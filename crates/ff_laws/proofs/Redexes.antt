-- Runtime expressions stay valid: their redex, what is put for it, and sources.
use Rattle.std.proofs.Common.{◌<◌}
use Rattle.ff_tree.specs.Spelled.{IsLit, IsWellSpelledExpr}
use Rattle.ff_tree.specs.declared.tree.Expr.{Expr}
use Rattle.ff_tree.specs.declared.tree.Lit.{Lit}
use Rattle.ff_tree.specs.declared.tree.Lit.TheVariants as lit
use Rattle.ff_value.specs.declared.ids.ActId.{ActId}
use Rattle.ff_term.specs.Running.{Running, redex, rewritten, innermost}
use Rattle.ff_term.specs.Rows.{local_row}
use Rattle.ff_term.specs.Whole.{whole, literal}
use Rattle.ff_term.specs.Redexes.{IsRedexOf}
use Rattle.ff_term.specs.Redex.{Redex}
use Rattle.ff_term.proofs.Keeping.{rewritten-meets, local-meets, innermost-meets}
use Rattle.ff_term.proofs.Sound.{gives-sound}
use Rattle.ff_term.specs.Sources.{TakesSources}
use Rattle.ff_term.proofs.Spelling.{source-meets}
use Rattle.ff_machine.specs.References.{Made, Grows}
use Rattle.ff_machine.specs.Valid.{IsVal, IsRunning, IsRedex, valid}
use Rattle.ff_laws.proofs.Growing.{running_grows}

module _ (m : Made) where
  -- the redex that was read of a valid expression is valid
  pub redex_valid : (r : Redex) (e : Running) → IsRedexOf r (redex e) → IsRunning m e → IsRedex m r
  redex_valid = gives-sound (valid m)

  -- and it stands in an activation that was made
  pub innermost_lives : (a : ActId) (e : Running) → a.0 < m.acts → IsRunning m e → (innermost a e).0 < m.acts
  innermost_lives = innermost-meets (valid m)

  -- what a valid redex becomes that no store decides is valid
  pub local_valid : (e : Running) → IsRunning m e → IsRunning m (local_row e)
  local_valid = local-meets (valid m) (tt, tt) (λ _. (tt, tt))

  literal_valid : (l : Lit) → IsLit l → IsVal m (literal l)
  literal_valid lit.Null h = (tt, tt)
  literal_valid (lit.Bool b) h = (tt, tt)
  literal_valid (lit.Num n) h = (h, tt)
  literal_valid (lit.Str text) h = (h, tt)

  takes_sources : TakesSources (valid m)
  takes_sources = record {
    val = literal_valid;
    var = λ x h. h;
    make = λ params body p q. (p, q);
    tree = λ doc h. h;
    prim = λ op n h. h;
  }

  -- a well spelled source is a valid runtime expression
  pub source_valid : (e : Expr) → IsWellSpelledExpr e → IsRunning m (whole e)
  source_valid = source-meets (valid m) takes_sources

-- with a valid part in the place of its redex, a valid expression stays valid
pub rewritten_valid : (m k : Made) (grows : Grows m k) (part e : Running) → IsRunning k part → IsRunning m e → IsRunning k (rewritten (λ _. part) e)
rewritten_valid m k grows part e is h = rewritten-meets (valid k) (λ _. part) (λ _ _. is) e (running_grows m k grows e h)
