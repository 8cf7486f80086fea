use Rattle.ff_policy.proofs.Total.{reads_some}
use Rattle.ff_policy.proofs.Unique.{reads_unique}
use Rattle.ff_policy.proofs.law.bytes_read_as_one_policy_or_fault.Goals as goal

pub returns : goal.returns
returns c = record { some = reads_some; one = reads_unique }
