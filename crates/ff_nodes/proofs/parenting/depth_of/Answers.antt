use Rattle.std.proofs.Common.{arith}
use Rattle.ff_nodes.proofs.Deep.{climb_begun, climb_ended, climb_more, climb_deep}
use Rattle.ff_nodes.proofs.parenting.depth_of.Goals as goal

pub loop-depth-init : goal.loop-depth-init
loop-depth-init c = climb_begun c.args.parents.now c.args.n c.requires.there

pub returns-in-None : goal.returns-in-None
returns-in-None c = (climb_ended c.args.parents.now (record { 0 = c.args.n }) c.loop-depth.depth c.loop-depth.at c.loop-depth.invariant c.loop-depth-test.true c.in-None.is, omega (arith, c.loop-depth-test.true))

pub loop-depth-preserved : goal.loop-depth-preserved
loop-depth-preserved c =
    climb_more c.args.parents.now (record { 0 = c.args.n }) c.loop-depth.depth c.loop-depth.at c.loop-depth.invariant c.loop-depth-test.true c.in-Some.p c.in-Some.is (c.requires.lives c.loop-depth.at c.in-Some.p c.in-Some.is)

pub returns : goal.returns
returns c = climb_deep c.args.parents.now (record { 0 = c.args.n }) c.loop-depth.depth c.loop-depth.at c.loop-depth.invariant (omega (arith, c.loop-depth-test.false))
