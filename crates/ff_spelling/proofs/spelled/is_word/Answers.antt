use Rattle.std.proofs.Common.{◌↔◌, IsTrue, sym, subst}
use Rattle.ff_spelling.specs.Fits.{FitsExpr}
use Rattle.ff_spelling.proofs.Parts as parts
use Rattle.ff_spelling.proofs.Parts.{it_is}
use Rattle.ff_spelling.proofs.spelled.is_word.Goals as goal

pub returns-in-Lit : goal.returns-in-Lit
returns-in-Lit c = subst (λ e. IsTrue c.is_lit.result ↔ FitsExpr 0 e) (sym c.in-Lit.is) (it_is c.is_lit.result c.is_lit.ensures (parts.lit_is 0 c.in-Lit.lit))

pub returns-in-Var : goal.returns-in-Var
returns-in-Var c = subst (λ e. IsTrue c.is_var.result ↔ FitsExpr 0 e) (sym c.in-Var.is) (it_is c.is_var.result c.is_var.ensures (parts.var_is 0 c.in-Var.name))

pub returns-in_default : goal.returns-in_default
returns-in_default c = (λ h. cc, λ h. absurd (parts.no_word c.args.expr.now c.in_default.not-Lit c.in_default.not-Var h))
