use Rattle.std.proofs.Common.{◌∙◌, ℤ, Option, Ok, IfSome, FitsSigned, ap, sym, subst}
use Rattle.std.specs.Int.{w64}
use Rattle.std.proofs.lemmas.Int.{to_z-of_z}
use Rattle.ff_tree.specs.declared.tree.Expr.TheVariants as expr
use Rattle.ff_tree.specs.declared.tree.Lit.TheVariants as lit
use Rattle.ff_reading.proofs.Numbering.{number_answers}
use Rattle.ff_reading.proofs.words.read_number.Goals as goal

pub returns-in-Some : goal.returns-in-Some
returns-in-Some c =
    let fits : FitsSigned w64 c.in-Some.n = subst (λ (o : Option ℤ). IfSome o (λ n. FitsSigned w64 n)) c.in-Some.is c.read_num.ensures.within in
    ap (λ (n : ℤ). Ok (expr.Lit (lit.Num n))) (to_z-of_z w64 c.in-Some.n fits)
    ∙ sym (number_answers c.args.at c.args.word.now _ (sym c.read_num.ensures.value ∙ c.in-Some.is))

pub returns-in-None : goal.returns-in-None
returns-in-None c = sym (number_answers c.args.at c.args.word.now _ (sym c.read_num.ensures.value ∙ c.in-None.is))
