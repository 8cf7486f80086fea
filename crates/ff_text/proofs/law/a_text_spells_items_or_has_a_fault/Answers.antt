use Rattle.ff_text.proofs.Verdict.{items_or_fault}
use Rattle.ff_text.proofs.law.a_text_spells_items_or_has_a_fault.Goals as goal

pub returns : goal.returns
returns c = items_or_fault
