use Rattle.std.proofs.Common.{subst}
use Rattle.ff_save.specs.Whole.{TellsPolicy}
use Rattle.ff_save.proofs.OtherPolicy.{no_other, other_test}
use Rattle.ff_save.proofs.read.is_of_other.Goals as goal

pub returns-then-ne : goal.returns-then-ne
returns-then-ne c = (
  (λ never. cc),
  (λ other. absurd (no_other c.args.policy.now c.args.bytes.now c.split_line.result.0.now c.as_slice.result.now c.split_line.ensures.line c.as_slice.ensures c.ne.result c.ne.ensures c.if-ne.true other)),
)

pub returns-in-Some : goal.returns-in-Some
returns-in-Some c =
    other_test c.args.policy.now c.args.bytes.now c.split_line.result.0.now c.as_slice.result.now c.split_line.ensures.line c.as_slice.ensures c.ne.result c.ne-in-Some.result c.split_line.result.1.now c.split_line-2.result.0.now c.in-Some.other c.args.text.now
    c.ne.ensures c.if-ne.false c.split_line.ensures.rest c.split_line-2.ensures.line (subst (TellsPolicy c.split_line-2.result.0.now) c.in-Some.is c.in_ok-other.ensures) c.requires c.ne-in-Some.ensures
