use Rattle.ff_reactor.proofs.Keeping.{ends_quiet, ends_soon, ends_valid}
use Rattle.ff_reactor.proofs.law.an_input_takes_few_turns.Goals as goal

pub returns : goal.returns
returns c = record { turns = ends_soon; quiet = ends_quiet; valid = ends_valid }
