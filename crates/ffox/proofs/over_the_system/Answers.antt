use Rattle.ff_run.specs.Words.{Command}
use Rattle.ff_run.proofs.System.{confined_run, tells_by_fetches}
use Rattle.ffox.proofs.over_the_system.Goals as goal

pub returns-clause-confined : goal.returns-clause-confined
returns-clause-confined g c name slice asks answered = confined_run name slice _ _ _ _ c.run.result c.requires.no_fetch c.requires.no_piece (c.run.ensures.given (Command.multi name slice) asks answered)

pub returns-clause-tells : goal.returns-clause-tells
returns-clause-tells g c command asks answered = tells_by_fetches command _ _ _ _ c.run.result c.requires.no_fetch (c.run.ensures.given command asks answered)
