use Rattle.std.proofs.Common.{rules}
use Rattle.ff_audit.proofs.Heard.{heard_all}
use Rattle.ff_audit.proofs.hearing.hear_side.Goals as goal

pub returns : goal.returns
returns c = heard_all c.args.side c.args.name.now c.args.text.now c.lines.rest.now c.args.comparison.now c.lines.comparison c.lines.invariant (search rules)
