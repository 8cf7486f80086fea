use Rattle.std.proofs.Common.{bytes_eq}
use Rattle.ff_policy.specs.Members.{NamedKind}
use Rattle.ff_policy.proofs.Seeking.{Seeks}
use Rattle.ff_policy.proofs.naming.named_kind.Given as goal

abbrev pub invariant-loop-one : goal.invariant-loop-one
invariant-loop-one l = Seeks (λ (one : NamedKind). bytes_eq one.key l.kind) l.kinds l.one-index
