use Rattle.ff_run.specs.Words as spec
use Rattle.ff_run.specs.Run.{Outside, outside}
use Rattle.ff_run.proofs.Headline.{cut_under, precision_under, projection_under, security_under, tells_under}
use Rattle.ff_run.proofs.Obeying.{said_none}
use Rattle.ff_run.proofs.top.run.Goals as goal

pub returns-clause-projected : goal.returns-clause-projected
returns-clause-projected g c name slice asks answered = projection_under name slice _ _ c.answer-status.result (c.answer-status.ensures.comes _ asks) answered

pub returns-clause-secure : goal.returns-clause-secure
returns-clause-secure g c name slice asks answered = security_under name slice _ _ c.answer-status.result (c.answer-status.ensures.comes _ asks) answered

pub returns-clause-precise : goal.returns-clause-precise
returns-clause-precise g c name slice asks answered = precision_under name slice _ _ c.answer-status.result (c.answer-status.ensures.comes _ asks) answered

pub returns-clause-cut_short : goal.returns-clause-cut_short
returns-clause-cut_short g c name slice asks cut = cut_under name slice _ _ c.answer-status.result (c.answer-status.ensures.comes _ asks) cut

pub returns-clause-tells : goal.returns-clause-tells
returns-clause-tells g c command asks answered = tells_under command _ _ c.answer-status.result (c.answer-status.ensures.comes command asks) answered

pub returns-clause-silent : goal.returns-clause-silent
returns-clause-silent g c none = c.report.ensures.silent (said_none c.answer-status.result none)
