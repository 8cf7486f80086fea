use Rattle.std.proofs.Common.{arith}
use Rattle.ff_save.specs.Holding.{held_by}
use Rattle.ff_save.proofs.Collecting.{next_line, no_line_more}
use Rattle.ff_save.proofs.Texts.{reading_none, reading_done, nothing_left, something_left}
use Rattle.ff_save.proofs.read.gather.Goals as goal

pub lines-init : goal.lines-init
lines-init g c = (reading_none c.args.policy.now.order c.args.policy.now.fuel c.args.bytes.now (held_by g.B.Reactor.state c.new-gathering.result) (rw c.fuel.ensures.value at c.new-gathering.ensures), omega arith)

pub returns-then-not-branch-clause-value : goal.returns-then-not-branch-clause-value
returns-then-not-branch-clause-value g c =
    no_line_more c.args.policy.now.order c.lattice.result.now c.lattice.ensures.value c.args.policy.now.fuel c.args.bytes.now (held_by g.B.Reactor.state c.lines.gathering) (held_by g.B.Reactor.state c.add_line.new.self) c.lines.rest.now c.split_line.result.0.now c.split_line.result.1.now c.lines.invariant.0
    (something_left c.lines.rest.now c.is_empty.result c.is_empty.ensures c.lines-test.true) c.split_line.ensures.line c.in_ok-add_line.field-0 c.in_ok-add_line.ensures.value c.if-not-branch.true

pub lines-preserved : goal.lines-preserved
lines-preserved g c = (
  next_line c.args.policy.now.order c.lattice.result.now c.lattice.ensures.value c.args.policy.now.fuel c.args.bytes.now (held_by g.B.Reactor.state c.lines.gathering) (held_by g.B.Reactor.state c.add_line.new.self) c.lines.rest.now c.split_line.result.0.now c.split_line.result.1.now c.lines.invariant.0
      (something_left c.lines.rest.now c.is_empty.result c.is_empty.ensures c.lines-test.true) c.split_line.ensures.line c.in_ok-add_line.field-0 c.in_ok-add_line.ensures.value c.if-not-branch.false c.split_line.ensures.rest,
  omega (arith, c.lines.invariant.1, c.add_line.ensures.later),
)

pub returns-clause-value : goal.returns-clause-value
returns-clause-value g c = reading_done c.args.policy.now.order c.args.policy.now.fuel c.args.bytes.now (held_by g.B.Reactor.state c.lines.gathering) c.lines.rest.now c.lines.invariant.0 (nothing_left c.lines.rest.now c.is_empty.result c.is_empty.ensures c.lines-test.false)
