use Rattle.ff_session.proofs.Standing.{offers_secure}
use Rattle.ff_session.proofs.law.a_view_depends_on_what_is_offered_at_or_below.Goals as goal

pub returns : goal.returns
returns c = offers_secure
