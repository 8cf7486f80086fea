use Rattle.std.proofs.Common.{[], ◌++◌, ap, ◌∙◌}
use Rattle.ff_lattice.specs.Order.{size}
use Rattle.ff_audit.specs.Verdicts.{report_of}
use Rattle.ff_audit.specs.Audited.{account}
use Rattle.ff_audit.proofs.Auditing.{reported, unreported}
use Rattle.ff_audit.proofs.walk.finish.Goals as goal

pub returns-in-Ok-clause-reported : goal.returns-in-Ok-clause-reported
returns-in-Ok-clause-reported g c =
    reported c.args.policy.now (account g.B.Reactor.state c.args.comparisons.now) c.requires.at.0 c.requires.at.1 c.args.end c.leak.result c.as_slice.result.now _ _ _ _ c.close.result c.good_status-good.result c.good_status-good.ensures c.leak.ensures
    (λ ps ms all. c.as_slice.ensures.value ∙ c.in-Ok.ensures ps ms all ∙ ap (λ t. t ++ report_of c.lattice.result.now (size c.lattice.result.now) ps ms) c.new-text.ensures.items ∙ ap (λ o. [] ++ report_of o (size o) ps ms) c.lattice.ensures.value)
    c.close.ensures.closed

pub returns-in-Err-clause-reported : goal.returns-in-Err-clause-reported
returns-in-Err-clause-reported g c =
    unreported c.args.policy.now (account g.B.Reactor.state c.args.comparisons.now) c.requires.at.0 c.requires.at.1 c.args.end _ _ c.requires.ended c.leak.result c.leak.ensures
