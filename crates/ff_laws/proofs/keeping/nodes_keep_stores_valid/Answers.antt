use Rattle.ff_laws.proofs.Inserting.{inserted_valid}
use Rattle.ff_laws.proofs.Making.{tree_made_valid}
use Rattle.ff_laws.proofs.Starting.{start_valid}
use Rattle.ff_laws.proofs.Texts.{with_text_valid, handler_added_valid}
use Rattle.ff_laws.proofs.keeping.nodes_keep_stores_valid.Goals as goal

pub returns : goal.returns
returns c = record { text = with_text_valid; handler = handler_added_valid; inserted = inserted_valid; tree = tree_made_valid; scripts = start_valid }
