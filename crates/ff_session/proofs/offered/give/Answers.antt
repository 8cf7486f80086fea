use Rattle.std.proofs.Common.{◌+◌, ap, ◌∙◌, arith}
use Rattle.std.proofs.lemmas.Result.{on_ok_weaker}
use Rattle.ff_pool.specs.Pooled.{drained, left}
use Rattle.ff_session.proofs.Feeding.{offers_fit, turns_left, taking_starts}
use Rattle.ff_session.proofs.offered.give.Goals as goal

pub arrive-requires : goal.arrive-requires
arrive-requires g c unspent = offers_fit c.args.policy.now c.args.pool.now c.args.offers.now c.requires.offers c.requires.at.0 c.requires.at.1 c.requires.at.2 c.requires.at.3

pub returns-clause-given : goal.returns-clause-given
returns-clause-given g c =
    on_ok_weaker c.drain.result
    (λ done all from is i given at. taking_starts c.args.policy.now c.args.pool.now c.args.offers.now c.requires.offers all from is at i given c.drain.new.self (done ∙ ap drained c.in_ok-arrive.ensures.done))
    c.drain.ensures.done

pub returns-clause-count : goal.returns-clause-count
returns-clause-count g c =
    on_ok_weaker c.drain.result
    (λ count all from is i given at. count ∙ ap (λ n. c.args.turns.now + n) (ap left c.in_ok-arrive.ensures.done ∙ turns_left c.args.policy.now c.args.pool.now c.args.offers.now c.requires.offers all from is at i given))
    c.drain.ensures.count

pub returns-clause-most : goal.returns-clause-most
returns-clause-most g c = λ all from is i given at.
    let same = ap left c.in_ok-arrive.ensures.done ∙ turns_left c.args.policy.now c.args.pool.now c.args.offers.now c.requires.offers all from is at i given in
    let most = c.drain.ensures.most in
    omega (arith, same, most)
