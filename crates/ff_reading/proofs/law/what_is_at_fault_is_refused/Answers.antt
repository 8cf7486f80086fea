use Rattle.ff_reading.proofs.Faulty.{refused_fault}
use Rattle.ff_reading.proofs.Refused.{fault_refused}
use Rattle.ff_reading.proofs.law.what_is_at_fault_is_refused.Goals as goal

pub returns : goal.returns
returns c = λ sort item found. (refused_fault item sort found, fault_refused sort item found)
