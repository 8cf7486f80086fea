use Rattle.ff_route.proofs.Fits.{name_ok}
use Rattle.ff_route.proofs.law.names_tell_levels_apart.Goals as goal

pub returns-clause-word : goal.returns-clause-word
returns-clause-word c = λ policy print l valid within. name_ok policy l valid within
