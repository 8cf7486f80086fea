use Rattle.std.proofs.Common.{◌≡◌, ◌++◌, sym, subst, rules, arith}
use Rattle.std.specs.Str.{IsUtf8}
use Rattle.std.proofs.lemmas.Grind.{common_steps}
use Rattle.std.proofs.lemmas.Str.{IsUtf8-append}
use Rattle.ff_operators.proofs.texts.joined.Goals as goal

pub made-requires : goal.made-requires
made-requires c =
    let joined : c.deref.result.now ≡ c.as_bytes-front.result.now ++ c.as_bytes-back.result.now = first_of (search rules, grind (arith, common_steps)) in
    subst IsUtf8 (sym joined) (IsUtf8-append c.as_bytes-front.result.now c.as_bytes-back.result.now c.as_bytes-front.ensures.utf8 c.as_bytes-back.ensures.utf8)
