use Rattle.std.proofs.Common.{rules, sym, ap, subst, ◌∙◌, FitsSigned}
use Rattle.std.specs.Int.{w64}
use Rattle.std.specs.Str.{IsUtf8}
use Rattle.std.proofs.lemmas.Int.{to_z-of_z}
use Rattle.std.proofs.lemmas.Str.{IsUtf8-from_ascii}
use Rattle.std.proofs.lemmas.Fmt.{IsAscii-signed}
use Rattle.ff_number.specs.Decimal.{num_text}
use Rattle.ff_operators.proofs.texts.str.Goals as goal

pub made-requires : goal.made-requires
made-requires c =
    let small : FitsSigned w64 c.in-Some.n = search rules in
    subst IsUtf8 (sym (c.as_slice.ensures ∙ c.of_num.ensures ∙ ap num_text (to_z-of_z w64 c.in-Some.n small))) (IsUtf8-from_ascii (num_text c.in-Some.n) (IsAscii-signed c.in-Some.n small.sfits))
