use Rattle.std.proofs.Common.{rules}
use Rattle.ff_audit.proofs.Comparing.{meets_none, meets_same, meets_other, meets_apart, popped}
use Rattle.ff_audit.proofs.comparison.compare_next.Goals as goal

pub returns-in_default-clause-met : goal.returns-in_default-clause-met
returns-in_default-clause-met c = meets_none c.args.own.now.items c.args.other.now.items c.push_back.new.self.items c.args.equal.now c.args.line (search rules) c.in_ok-push_back.ensures.items

pub returns-then-not-is_empty-clause-met : goal.returns-then-not-is_empty-clause-met
returns-then-not-is_empty-clause-met c = meets_apart c.args.own.now.items c.args.other.now.items c.args.equal.now c.args.line (search rules) (search rules)

pub returns-in_ok-equal-clause-met : goal.returns-in_ok-equal-clause-met
returns-in_ok-equal-clause-met c =
    meets_same c.args.own.now.items c.args.other.now.items c.pop_front.new.self.items c.args.equal.now c.in_ok-equal.field-0 c.in-Some.next.now c.args.line (search rules)
    (popped c.args.other.now.items c.pop_front.new.self.items c.in-Some.next.now (search rules) (search rules) c.pop_front.ensures.rest) (search rules) c.in_ok-equal.ensures

pub returns-in_ok-push_back-2-clause-met : goal.returns-in_ok-push_back-2-clause-met
returns-in_ok-push_back-2-clause-met c =
    meets_other c.args.own.now.items c.args.other.now.items c.push_back-else-same.new.self.items c.truncate.new.self.items c.args.equal.now c.in-Some.next.now c.args.line (search rules) (search rules) (search rules) (search rules) c.in_ok-push_back-2.ensures.items (search rules)
