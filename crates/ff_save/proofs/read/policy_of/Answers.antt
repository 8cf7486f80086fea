use Rattle.std.proofs.Common.{arith}
use Rattle.ff_save.proofs.OtherPolicy.{read_as, unread}
use Rattle.ff_save.proofs.read.policy_of.Goals as goal

pub returns-in-Ok : goal.returns-in-Ok
returns-in-Ok c = read_as c.lattice.result.now c.args.line.now c.read_row.result c.read_row.ensures.only c.in-Ok.row c.in-Ok.is (omega (arith, c.if-line-gt-MOST_BYTES.false)) c.policy_row.result c.policy_row.ensures

pub returns-in-Err : goal.returns-in-Err
returns-in-Err c = unread c.lattice.result.now c.args.line.now c.read_row.result c.read_row.ensures.only c.in-Err.fault c.in-Err.is c.no_policy.result c.no_policy.ensures
