use Rattle.std.proofs.Common.{sym, subst}
use Rattle.ff_run.specs.Run.{ComesTo, outside}
use Rattle.ff_run.specs.Telling.{TellsAsGiven}
use Rattle.ff_run.specs.Words.{IsBuiltIn, RunsNone, command_of}
use Rattle.ff_run.proofs.Commands.{asks_once}
use Rattle.ff_run.proofs.top.answer.Goals as goal

pub returns-in-Some-clause-comes : goal.returns-in-Some-clause-comes
returns-in-Some-clause-comes g c command asks =
    subst (λ d. ComesTo d (outside (g.S.Shelf.told c.args.shelf.now) (g.P.Port.told c.args.port.now) c.args.turns.now) (outside (g.S.Shelf.told c.obey.new.shelf) (g.P.Port.told c.obey.new.port) c.obey.new.turns) c.obey.result)
    (asks_once c.args.words.now (command_of c.in-Some.command) command c.in-Some.ensures.0 asks) c.obey.ensures.comes

pub returns-in-Some-clause-given : goal.returns-in-Some-clause-given
returns-in-Some-clause-given g c command asks answered =
    subst (λ d. TellsAsGiven d (g.S.Shelf.told c.args.shelf.now) (g.S.Shelf.told c.obey.new.shelf) (g.P.Port.told c.args.port.now) (g.P.Port.told c.obey.new.port) c.obey.result)
    (asks_once c.args.words.now (command_of c.in-Some.command) command c.in-Some.ensures.0 asks) (c.obey.ensures.given answered)

pub returns-in-Some-clause-no_fetch : goal.returns-in-Some-clause-no_fetch
returns-in-Some-clause-no_fetch g c command asks none = c.obey.ensures.no_fetch (subst IsBuiltIn (sym (asks_once c.args.words.now (command_of c.in-Some.command) command c.in-Some.ensures.0 asks)) none)

pub returns-in-Some-clause-uncopied : goal.returns-in-Some-clause-uncopied
returns-in-Some-clause-uncopied g c command asks none = c.obey.ensures.uncopied (subst RunsNone (sym (asks_once c.args.words.now (command_of c.in-Some.command) command c.in-Some.ensures.0 asks)) none)
