use Rattle.std.proofs.Common.{arith, sym}
use Rattle.ff_trace.proofs.Numbers.{number_of_small}
use Rattle.ff_trace.proofs.parts.number_of.Goals as goal

pub returns-then-number-le-MOST_NUMBER-clause-value : goal.returns-then-number-le-MOST_NUMBER-clause-value
returns-then-number-le-MOST_NUMBER-clause-value c =
    sym (number_of_small c.args.bytes.now c.read_nat.result c.in-Some.number (record { spelled = c.read_nat.ensures.spelled }) c.in-Some.is (omega (arith, c.if-number-le-MOST_NUMBER.true)))
