use Rattle.ff_status.specs.declared.status.Status.TheVariants.{Done}
use Rattle.ff_stream.specs.declared.end.End.TheVariants as ended
use Rattle.ff_save.specs.Saved.{saved_recs, saved_text}
use Rattle.ff_session.proofs.Closing.{none_put}
use Rattle.ff_resume.proofs.resuming.finish.Goals as goal

pub returns-clause-closed : goal.returns-clause-closed
returns-clause-closed g c = none_put ended.Done Done (saved_text c.args.policy.now (saved_recs c.args.pool.now)) _ _ tt
