use Rattle.ff_laws.proofs.Acts.{declared_valid, assigned_valid}
use Rattle.ff_laws.proofs.Calling.{called_valid}
use Rattle.ff_laws.proofs.keeping.variables_keep_stores_valid.Goals as goal

pub returns : goal.returns
returns c = record { declared = declared_valid; assigned = assigned_valid; called = called_valid }
