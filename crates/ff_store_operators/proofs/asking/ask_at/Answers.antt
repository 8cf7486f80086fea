use Rattle.ff_machine.specs.References.{made}
use Rattle.ff_store_operators.proofs.Doing.{is_callback}
use Rattle.ff_store_operators.proofs.asking.ask_at.Goals as goal

pub send-requires-clause-to : goal.send-requires-clause-to
send-requires-clause-to g c = is_callback (made c.args.stores.now) c.args.code.now c.in_ok-copy.field-0 c.in_ok-copy.ensures c.requires.code c.requires.takes_one
