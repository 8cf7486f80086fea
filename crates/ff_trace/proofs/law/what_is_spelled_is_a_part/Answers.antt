use Rattle.ff_trace.proofs.Numbers.{number_exactly}
use Rattle.ff_trace.proofs.Spelt.{address_exactly, domain_exactly}
use Rattle.ff_trace.proofs.law.what_is_spelled_is_a_part.Goals as goal

pub returns : goal.returns
returns c = record { numbers = number_exactly; addresses = address_exactly; domains = domain_exactly }
