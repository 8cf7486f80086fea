use Rattle.std.proofs.Common.{arith}
use Rattle.std.specs.Rc.{rc_value}
use Rattle.ff_cow.proofs.branch.edit_in.Goals as goal

pub returns-in_default-clause-copies : goal.returns-in_default-clause-copies
returns-in_default-clause-copies g c = omega (arith, g.met.T.Writable.few (rc_value c.args.kid.now) c.requires.valid)

pub returns-in_default-get_mut-clause-copies : goal.returns-in_default-get_mut-clause-copies
returns-in_default-get_mut-clause-copies g c = omega (arith, g.met.T.Writable.few (rc_value c.args.kid.now) c.requires.valid)
