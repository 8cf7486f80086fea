use Rattle.ff_save.proofs.Verdicts.{one_saved}
use Rattle.ff_save.proofs.law.a_saved_text_is_of_one_pool.Goals as goal

pub returns : goal.returns
returns c = one_saved
