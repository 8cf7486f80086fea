use Rattle.std.proofs.Common.{arith, to_z, of_z, w64}
use Rattle.std.proofs.lemmas.Str.{IsUtf8-between}
use Rattle.ff_operators.proofs.Places.{boundary}
use Rattle.ff_operators.proofs.texts.part_of.Goals as goal

pub returns-then-from-to-clause-utf8 : goal.returns-then-from-to-clause-utf8
returns-then-from-to-clause-utf8 c =
    IsUtf8-between c.args.text.now c.in_ok-from.from c.in_ok-to.to c.requires (omega arith)
    (boundary c.args.text.now (to_z w64 (of_z w64 c.args.from)) c.in_ok-from.from c.in_ok-from.ensures.0 c.in_ok-from.ensures.1)
    (boundary c.args.text.now (to_z w64 (of_z w64 c.args.to)) c.in_ok-to.to c.in_ok-to.ensures.0 c.in_ok-to.ensures.1)
