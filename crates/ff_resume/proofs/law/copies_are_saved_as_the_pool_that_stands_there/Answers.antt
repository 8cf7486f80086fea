use Rattle.ff_resume.proofs.Stood.{pool_saved, pool_text}
use Rattle.ff_resume.proofs.law.copies_are_saved_as_the_pool_that_stands_there.Goals as goal

pub returns-clause-text : goal.returns-clause-text
returns-clause-text c = pool_text

pub returns-clause-whole : goal.returns-clause-whole
returns-clause-whole c = pool_saved
