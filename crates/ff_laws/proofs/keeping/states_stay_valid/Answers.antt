use Rattle.ff_laws.proofs.States.{begin_state, turn_state, keeps_states, handled_state, run_state}
use Rattle.ff_laws.proofs.keeping.states_stay_valid.Goals as goal

pub returns : goal.returns
returns c = record { begin = begin_state; turn = turn_state; reactor = keeps_states; handled = handled_state; run = run_state }
