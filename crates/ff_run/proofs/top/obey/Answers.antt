use Rattle.std.proofs.Common.{ap}
use Rattle.ff_run.specs.Run.{outside}
use Rattle.ff_run.specs.Words.{command_of}
use Rattle.ff_run.proofs.Coming.{comes_refused, comes_under, no_usage}
use Rattle.ff_run.proofs.Obeying.{policy_refusal, refused_unanswered}
use Rattle.ff_run.proofs.top.obey.Goals as goal

pub returns-in-Ok-clause-comes : goal.returns-in-Ok-clause-comes
returns-in-Ok-clause-comes g c =
    let shelf = g.S.Shelf.told c.args.shelf.now in
    let mid = g.S.Shelf.told c.find.new.shelf in
    comes_under (command_of c.args.command) shelf mid (g.P.Port.told c.args.port.now) c.args.turns.now c.find.result (rw c.policy.ensures at c.find.ensures.only) (rw c.policy.ensures at c.find.ensures.exact) c.find.ensures.fetched
    c.in-Ok.policy c.in-Ok.is (rw c.policy.ensures at c.in-Ok.ensures.named) c.perform.ensures.valid c.find.ensures.later
    (outside (g.S.Shelf.told c.perform.new.shelf) (g.P.Port.told c.perform.new.port) c.perform.new.turns) c.perform.result c.perform.ensures.performs c.perform.ensures.goes_on c.perform.ensures.fetched

pub returns-in-Ok-clause-command : goal.returns-in-Ok-clause-command
returns-in-Ok-clause-command g c = no_usage (command_of c.args.command) _ _ c.perform.result (returns-in-Ok-clause-comes g c)

pub returns-in-Err-clause-comes : goal.returns-in-Err-clause-comes
returns-in-Err-clause-comes g c =
    comes_refused (command_of c.args.command) (g.S.Shelf.told c.args.shelf.now) (g.S.Shelf.told c.find.new.shelf) (g.P.Port.told c.args.port.now) c.args.turns.now c.find.result (rw c.policy.ensures at c.find.ensures.only) (rw c.policy.ensures at c.find.ensures.exact) c.find.ensures.fetched
    c.in-Err.status c.in-Err.is (rw c.policy.ensures at c.in-Err.ensures.refused)

pub returns-in-Err-clause-command : goal.returns-in-Err-clause-command
returns-in-Err-clause-command g c = no_usage (command_of c.args.command) _ _ c.in-Err.status (returns-in-Err-clause-comes g c)

pub returns-in-Ok-clause-given : goal.returns-in-Ok-clause-given
returns-in-Ok-clause-given g c answered = record {
  between = g.S.Shelf.told c.find.new.shelf;
  under = record {
    found = c.in-Ok.policy;
    given = rw c.policy.ensures at c.in-Ok.ensures.given;
    held = (c.perform.ensures.valid, c.perform.ensures.given answered);
  };
  no_more = λ by_none. ap (λ there. g.S.Shelf.told there) (c.perform.ensures.no_fetch by_none);
}

-- nothing was found, so nothing is answered
pub returns-in-Err-clause-given : goal.returns-in-Err-clause-given
returns-in-Err-clause-given g c answered = absurd (refused_unanswered policy_refusal c.in-Err.status c.in-Err.ensures.refused answered)
