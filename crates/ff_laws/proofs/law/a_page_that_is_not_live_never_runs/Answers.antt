use Rattle.ff_laws.proofs.Dead.{dropped, taken_live, not_filled, not_called}
use Rattle.ff_laws.proofs.law.a_page_that_is_not_live_never_runs.Goals as goal

pub returns : goal.returns
returns c = record { task = dropped; script = taken_live; slot = not_filled; callback = not_called }
