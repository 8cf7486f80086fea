use Rattle.ff_save.proofs.writing_stores.write_open.Goals as goal

pub returns-in-Ok : goal.returns-in-Ok
returns-in-Ok c = λ order. rw c.in-Ok.ensures at c.put_open.ensures order
