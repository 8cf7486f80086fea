use Rattle.std.proofs.Common.{arith}
use Rattle.ff_spelling.proofs.Each.{with_one, takes_length}
use Rattle.ff_spelling.proofs.codes.is_handler.Goals as goal

pub returns : goal.returns
returns c = with_one c.is_code.result c.args.code.now (omega (arith, c.len.ensures, c.if-len-ne1.false)) c.is_code.ensures

pub returns-then-len-ne1 : goal.returns-then-len-ne1
returns-then-len-ne1 c = (λ h. cc, λ h. absurd (omega (arith, c.len.ensures, c.if-len-ne1.true, takes_length c.args.code.now h.1)))
