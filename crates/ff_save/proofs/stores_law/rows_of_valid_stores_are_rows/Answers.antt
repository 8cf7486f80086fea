use Rattle.ff_save.proofs.Rowed.{rows_good, rows_again}
use Rattle.ff_save.proofs.stores_law.rows_of_valid_stores_are_rows.Goals as goal

pub returns-clause-rows : goal.returns-clause-rows
returns-clause-rows c = rows_good

pub returns-clause-again : goal.returns-clause-again
returns-clause-again c = rows_again
