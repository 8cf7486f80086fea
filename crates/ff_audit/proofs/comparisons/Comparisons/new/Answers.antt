use Rattle.std.proofs.Common.{◌∙◌, ap}
use Rattle.ff_lattice.specs.Order.{size}
use Rattle.ff_session.specs.Multi.{seen_by}
use Rattle.ff_session.proofs.Turning.{fresh_plain}
use Rattle.ff_audit.proofs.Auditing.{audit_none}
use Rattle.ff_audit.proofs.comparisons.Comparisons.new.Goals as goal

pub returns : goal.returns
returns g c =
    audit_none c.args.policy.now _ (fresh_plain c.args.policy.now _ c.fuel.result c.fuel.ensures.value c.new-browser.ensures) (c.in_ok-pool.ensures.copies (seen_by c.args.policy.now)) (c.in_ok-levels.ensures.count ∙ ap size c.lattice.ensures.value) c.in_ok-levels.ensures.fresh
