use Rattle.std.proofs.Common.{◌+◌, Ok, length, arith, sym, ap, subst}
use Rattle.std.specs.Option.{IfSome}
use Rattle.std.proofs.lemmas.Result.{err_from_is_err_and}
use Rattle.ff_rules.specs.Lines.{GivesRule}
use Rattle.ff_route.specs.Offering.{IsRuleOf}
use Rattle.ff_rules.proofs.Reading.{IsReading, large, all_lines, found_bad, reading_none, reading_rule, reading_many, reading_done, nothing_left, something_left}
use Rattle.ff_rules.proofs.rules.first_read.Goals as goal
use Rattle.ff_rules.proofs.rules.first_read.Goals.{in-Some+else-as_slice-ge-MOST_RULES+in_ok-push-in-Some, in-None}

pub returns-then-bytes-gt-MOST_RULES_BYTES-clause-found : goal.returns-then-bytes-gt-MOST_RULES_BYTES-clause-found
returns-then-bytes-gt-MOST_RULES_BYTES-clause-found c = large c.args.lattice.now c.args.bytes.now (omega (arith, c.if-bytes-gt-MOST_RULES_BYTES.true))

pub returns-clause-found : goal.returns-clause-found
returns-clause-found c =
    all_lines c.args.lattice.now c.args.bytes.now (Ok c.lines.rules) (omega (arith, c.if-bytes-gt-MOST_RULES_BYTES.false))
    (reading_done c.args.lattice.now c.args.bytes.now c.lines.rules c.lines.rest.now c.lines.number c.lines.invariant (nothing_left c.lines.rest.now c.is_empty.result c.is_empty.ensures c.lines-test.false))

pub returns-in_err-rule-clause-found : goal.returns-in_err-rule-clause-found
returns-in_err-rule-clause-found c =
    let gone = err_from_is_err_and c.from_residual.result c.from_residual.ensures.1 in
    rw (gone.1, gone.2)
    (found_bad c.args.lattice.now c.args.bytes.now c.lines.rules c.lines.rest.now c.split_line.result.0.now c.split_line.result.1.now c.lines.number c.lines.invariant
    (something_left c.lines.rest.now c.is_empty.result c.is_empty.ensures c.lines-test.true) c.split_line.ensures.line c.split_line.ensures.rest (omega (arith, c.if-bytes-gt-MOST_RULES_BYTES.false)) c.in_err-rule.field-0.0 c.in_err-rule.ensures.found)

pub returns-then-as_slice-ge-MOST_RULES-clause-found : goal.returns-then-as_slice-ge-MOST_RULES-clause-found
returns-then-as_slice-ge-MOST_RULES-clause-found c =
    let long = ap length c.as_slice.ensures in
    all_lines c.args.lattice.now c.args.bytes.now _ (omega (arith, c.if-bytes-gt-MOST_RULES_BYTES.false))
    (reading_many c.args.lattice.now c.args.bytes.now c.lines.rules c.lines.rest.now c.split_line.result.0.now c.split_line.result.1.now c.lines.number c.lines.invariant
    (something_left c.lines.rest.now c.is_empty.result c.is_empty.ensures c.lines-test.true) c.split_line.ensures.line c.split_line.ensures.rest c.in-Some.rule
    (subst (λ o. GivesRule c.args.lattice.now c.lines.number c.split_line.result.0.now (Ok o)) c.in-Some.is c.in_ok-rule.ensures.found) (omega (arith, long, c.if-as_slice-ge-MOST_RULES.true)))

pub lines-preserved : goal.lines-preserved
lines-preserved c = elim c.match-branch-2.branch [
  | in-Some+else-as_slice-ge-MOST_RULES+in_ok-push-in-Some w ↦
      let long = ap length w.as_slice.ensures in
      subst (λ rs. IsReading c.args.lattice.now c.args.bytes.now rs c.split_line.result.1.now (c.lines.number + 1)) (sym w.rules-is)
      (reading_rule c.args.lattice.now c.args.bytes.now c.lines.rules c.lines.rest.now c.split_line.result.0.now c.split_line.result.1.now c.lines.number c.lines.invariant
      (something_left c.lines.rest.now c.is_empty.result c.is_empty.ensures c.lines-test.true) c.split_line.ensures.line c.split_line.ensures.rest w.in-Some.rule w.push.new.self
      (subst (λ o. GivesRule c.args.lattice.now c.lines.number c.split_line.result.0.now (Ok o)) w.in-Some.is c.in_ok-rule.ensures.found)
      (omega (arith, long, w.if-as_slice-ge-MOST_RULES.false)) (subst (λ o. IfSome o (IsRuleOf c.args.lattice.now)) w.in-Some.is c.in_ok-rule.ensures.within) w.in_ok-push-in-Some.ensures.done)
  | in-None w ↦
      subst (λ rs. IsReading c.args.lattice.now c.args.bytes.now rs c.split_line.result.1.now (c.lines.number + 1)) (sym w.rules-is)
      (reading_none c.args.lattice.now c.args.bytes.now c.lines.rules c.lines.rest.now c.split_line.result.0.now c.split_line.result.1.now c.lines.number c.lines.invariant
      (something_left c.lines.rest.now c.is_empty.result c.is_empty.ensures c.lines-test.true) c.split_line.ensures.line c.split_line.ensures.rest
      (subst (λ o. GivesRule c.args.lattice.now c.lines.number c.split_line.result.0.now (Ok o)) w.in-None.is c.in_ok-rule.ensures.found))
]
