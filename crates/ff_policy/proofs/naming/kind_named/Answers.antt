use Rattle.std.proofs.Common.{◌≡◌, ◌≢◌, ℕ, List, Result, Err, IfErr, subst, ap, ◌∙◌, bytes_eq}
use Rattle.std.specs.List.{find}
use Rattle.ff_policy.specs.declared.fault.PolicyFault.{PolicyFault}
use Rattle.ff_policy.specs.declared.fault.PolicyFault.TheVariants.{NoMemory}
use Rattle.ff_policy.specs.Assignment.{KindLevels}
use Rattle.ff_policy.specs.Naming.{levels_or_bottom, kind_named}
use Rattle.ff_policy.proofs.naming.kind_named.Goals as goal

pub returns-clause-fault : goal.returns-clause-fault
returns-clause-fault c =
    subst (λ (r : Result KindLevels PolicyFault). IfErr c.levels_or_bottom.result (λ fault. fault ≢ NoMemory → r ≡ Err fault))
    (ap (levels_or_bottom c.args.lattice.now c.word-word.result.now) (c.named_kind.ensures ∙ ap (λ (k : List ℕ). find (λ one. bytes_eq one.key k) c.args.kinds.now) c.as_bytes.ensures.value)
    ∙ ap (kind_named c.args.lattice.now c.args.kinds.now) c.word-word.ensures)
    c.levels_or_bottom.ensures.fault
