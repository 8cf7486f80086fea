use Rattle.ff_save.proofs.Verdicts.{one_fault, saved_faultless, some_verdict}
use Rattle.ff_save.proofs.law.bytes_are_a_state_or_have_a_fault.Goals as goal

pub returns : goal.returns
returns c = record { some = some_verdict; faultless = saved_faultless; one = one_fault }
