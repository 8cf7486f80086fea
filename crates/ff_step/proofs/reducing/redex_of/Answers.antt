use Rattle.std.proofs.Common.{sym}
use Rattle.ff_term.specs.Running as term
use Rattle.ff_term.proofs.Reading.{redex-read}
use Rattle.ff_frames.specs.Lent.{named}
use Rattle.ff_machine.specs.References.{made}
use Rattle.ff_laws.proofs.Redexes.{redex_valid}
use Rattle.ff_step.proofs.reducing.redex_of.Goals as goal

pub returns-clause-valid : goal.returns-clause-valid
returns-clause-valid c = redex_valid (made c.args.stores.now) (named c.next.result) c.args.control.now.expr c.next.ensures c.requires.running

pub returns-clause-read : goal.returns-clause-read
returns-clause-read c = sym (redex-read (named c.next.result) (term.redex c.args.control.now.expr) c.next.ensures)
