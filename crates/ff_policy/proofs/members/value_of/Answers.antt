use Rattle.std.proofs.Common.{sym, ◌∙◌, true≢false, arith}
use Rattle.std.proofs.lemmas.Option.{none-some}
use Rattle.ff_policy.specs.Reading.{too_large, not_json}
use Rattle.ff_policy.proofs.members.value_of.Goals as goal

pub returns-then-bytes-gt-MOST_POLICY_BYTES-clause-fault : goal.returns-then-bytes-gt-MOST_POLICY_BYTES-clause-fault
returns-then-bytes-gt-MOST_POLICY_BYTES-clause-fault c = λ _. too_large (omega arith)

pub returns-in-Err-2-clause-fault : goal.returns-in-Err-2-clause-fault
returns-in-Err-2-clause-fault c = λ _. not_json (omega arith) (λ value is.
    none-some value (sym (c.in-Err.ensures.err (λ memory. true≢false (sym (c.is_memory.ensures.1 memory) ∙ c.if-is_memory.false)) is.utf8) ∙ is.is))
