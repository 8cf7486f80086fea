use Rattle.std.proofs.lemmas.Result.{on_ok_weaker}
use Rattle.ff_session.specs.Multi.{seen_by}
use Rattle.ff_session.proofs.Feeding.{seen_fit}
use Rattle.ff_session.proofs.multi.CopiesTaker.take.Goals as goal

pub take_offers-requires-clause-offers : goal.take_offers-requires-clause-offers
take_offers-requires-clause-offers g c = seen_fit c.args.self.now.policy.now c.args.item.now c.in_ok-seen.seen c.requires.accepts c.in_ok-seen.ensures

pub take_offers-requires-clause-at : goal.take_offers-requires-clause-at
take_offers-requires-clause-at g c = (seen_by c.args.self.now.policy.now, c.requires.at.0, c.requires.at.1, c.requires.at.2.0)

pub returns-clause-taken : goal.returns-clause-taken
returns-clause-taken g c =
    on_ok_weaker c.take_offers.result
    (λ taken from is at. (taken (seen_by c.args.self.now.policy.now) from is c.args.item.now c.in_ok-seen.ensures at.0, at.1))
    c.take_offers.ensures.taken

pub returns-clause-text : goal.returns-clause-text
returns-clause-text g c =
    on_ok_weaker c.take_offers.result
    (λ text from is at. text (seen_by c.args.self.now.policy.now) from is c.args.item.now c.in_ok-seen.ensures at.0)
    c.take_offers.ensures.text

pub returns-clause-count : goal.returns-clause-count
returns-clause-count g c =
    on_ok_weaker c.take_offers.result
    (λ count from is at. count (seen_by c.args.self.now.policy.now) from is c.args.item.now c.in_ok-seen.ensures at.0)
    c.take_offers.ensures.count

pub returns-clause-most : goal.returns-clause-most
returns-clause-most g c = λ from is at. c.take_offers.ensures.most (seen_by c.args.self.now.policy.now) from is c.args.item.now c.in_ok-seen.ensures at.0
