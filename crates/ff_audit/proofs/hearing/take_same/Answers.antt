use Rattle.std.proofs.Common.{rules}
use Rattle.ff_audit.proofs.Heard.{taken}
use Rattle.ff_audit.proofs.hearing.take_same.Goals as goal

pub returns-in_ok-add_same-in-Some-Some-clause-taken : goal.returns-in_ok-add_same-in-Some-Some-clause-taken
returns-in_ok-add_same-in-Some-Some-clause-taken c =
    taken c.args.name.now c.args.plain.now c.args.multi.now c.in-Some-Some.more.now c.in-Some-Some.others.now c.in-Some-Some.line.now c.in-Some-Some.other.now c.args.comparison.now c.add_same.new.self
    (search rules) (search rules) (search rules) (search rules) c.in_ok-add_same-in-Some-Some.ensures.done
