use Rattle.std.proofs.lemmas.Result.{on_ok_weaker}
use Rattle.ff_release.specs.Releasing.{offered_by}
use Rattle.ff_session.specs.Levels.{machine}
use Rattle.ff_confinement.specs.Standings.{fresh}
use Rattle.ff_release.proofs.Taking.{left_fit, offers_fit, offered_so, goes_on}
use Rattle.ff_release.proofs.releasing.ReleasingTaker.take.Goals as goal

pub offers-requires-clause-levels : goal.offers-requires-clause-levels
offers-requires-clause-levels g c = left_fit c.args.self.now.policy.now c.requires.at.0 c.args.state.now.pool c.args.state.now.release c.requires.at.1 c.requires.at.2.0

pub take_offers-requires-clause-offers : goal.take_offers-requires-clause-offers
take_offers-requires-clause-offers g c = offers_fit c.args.self.now.policy.now c.args.state.now.release c.args.item.now c.in_ok-offers.offers c.requires.accepts c.in_ok-offers.ensures.offers

pub returns-clause-taken : goal.returns-clause-taken
returns-clause-taken g c =
    let p = c.args.self.now.policy.now in
    on_ok_weaker c.take_offers.result
    (λ taken rules is at. (
      goes_on p rules c.args.state.now.pool c.take_offers.new.pool c.args.state.now.release c.offers.new.self is c.args.item.now at.0 c.in_ok-offers.ensures.left
          (taken (offered_by p rules) (fresh (machine p)) is c.args.item.now (offered_so p rules c.args.state.now.pool c.args.state.now.release is c.args.item.now c.in_ok-offers.offers at.0 c.requires.accepts c.in_ok-offers.ensures.offers) at.0.copies),
      at.1,
    ))
    c.take_offers.ensures.taken

pub returns-clause-text : goal.returns-clause-text
returns-clause-text g c =
    let p = c.args.self.now.policy.now in
    on_ok_weaker c.take_offers.result
    (λ text rules is at. text (offered_by p rules) (fresh (machine p)) is c.args.item.now (offered_so p rules c.args.state.now.pool c.args.state.now.release is c.args.item.now c.in_ok-offers.offers at.0 c.requires.accepts c.in_ok-offers.ensures.offers) at.0.copies)
    c.take_offers.ensures.text

pub returns-clause-count : goal.returns-clause-count
returns-clause-count g c =
    let p = c.args.self.now.policy.now in
    on_ok_weaker c.take_offers.result
    (λ count rules is at. count (offered_by p rules) (fresh (machine p)) is c.args.item.now (offered_so p rules c.args.state.now.pool c.args.state.now.release is c.args.item.now c.in_ok-offers.offers at.0 c.requires.accepts c.in_ok-offers.ensures.offers) at.0.copies)
    c.take_offers.ensures.count

pub returns-clause-most : goal.returns-clause-most
returns-clause-most g c = λ rules is at.
    let p = c.args.self.now.policy.now in
    c.take_offers.ensures.most (offered_by p rules) (fresh (machine p)) is c.args.item.now (offered_so p rules c.args.state.now.pool c.args.state.now.release is c.args.item.now c.in_ok-offers.offers at.0 c.requires.accepts c.in_ok-offers.ensures.offers) at.0.copies
