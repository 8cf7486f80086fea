use Rattle.std.proofs.Common.{rules, arith}
use Rattle.std.proofs.lemmas.Grind.{common_steps}
use Rattle.ff_number.proofs.Signed.{after_minus}
use Rattle.ff_number.proofs.Values.{read_num_is}
use Rattle.ff_number.proofs.reading.read_num.Goals as goal

pub returns-in-Some-clause-spelled : goal.returns-in-Some-clause-spelled
returns-in-Some-clause-spelled c =
    after_minus c.args.bytes.now c.in-Some.digits.now c.read_below_zero.result c.in-Some.ensures c.read_below_zero.ensures.spelled c.read_below_zero.ensures.negative

pub returns-in-Some-clause-value : goal.returns-in-Some-clause-value
returns-in-Some-clause-value c =
    read_num_is c.args.bytes.now c.read_below_zero.result (after_minus c.args.bytes.now c.in-Some.digits.now c.read_below_zero.result c.in-Some.ensures c.read_below_zero.ensures.spelled c.read_below_zero.ensures.negative) (search rules)

pub returns-in_err-read_nat-in-None-clause-value : goal.returns-in_err-read_nat-in-None-clause-value
returns-in_err-read_nat-in-None-clause-value c =
    read_num_is c.args.bytes.now c.from_residual.result (λ n small. first_of (search rules, grind (arith, common_steps))) (first_of (search rules, grind (arith, common_steps)))

pub returns-in_ok-read_nat-in-None-clause-value : goal.returns-in_ok-read_nat-in-None-clause-value
returns-in_ok-read_nat-in-None-clause-value c =
    read_num_is c.args.bytes.now c.ok.result (λ n small. first_of (search rules, grind (arith, common_steps))) (first_of (search rules, grind (arith, common_steps)))
