use Rattle.ff_laws.proofs.Loading.{load_valid, go_valid, opens_valid}
use Rattle.ff_laws.proofs.Slots.{filled_valid, popped_valid, closed_valid}
use Rattle.ff_laws.proofs.keeping.windows_keep_stores_valid.Goals as goal

pub returns : goal.returns
returns c = record { load = load_valid; opens = opens_valid; go = go_valid; close = λ s w valid. closed_valid s w valid; filled = filled_valid; popped = popped_valid }
