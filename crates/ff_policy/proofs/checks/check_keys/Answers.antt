use Rattle.std.proofs.Common.{ap, ◌∙◌, arith}
use Rattle.ff_policy.specs.Assignment.{Key}
use Rattle.ff_policy.proofs.Places.{no_key_at}
use Rattle.ff_policy.proofs.checks.check_keys.Goals as goal

pub returns-then-not-is_key-clause-fault : goal.returns-then-not-is_key-clause-fault
returns-then-not-is_key-clause-fault c =
    let key = ap (λ (k : Key). k.key) c.one.view_is in
    λ _. no_key_at c.args.keys.now c.loop-one.one-index c.one-item.result c.in_ok-copy.field-0 c.as_bytes.result.now c.is_key.result (omega arith) c.one-item.is c.loop-one.invariant
    (c.in_ok-copy.ensures ∙ key) (c.as_bytes.ensures.value ∙ key) c.is_key.ensures c.if-not-is_key.true
