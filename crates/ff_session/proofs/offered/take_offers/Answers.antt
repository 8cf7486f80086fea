use Rattle.std.proofs.lemmas.Result.{on_ok_weaker}
use Rattle.ff_session.proofs.offered.take_offers.Goals as goal

pub returns-clause-taken : goal.returns-clause-taken
returns-clause-taken g c = on_ok_weaker c.let_out.result (λ taken all from is i given at. taken all from is i (c.in_ok-give.ensures.given all from is i given at)) c.let_out.ensures.taken

pub returns-clause-text : goal.returns-clause-text
returns-clause-text g c = on_ok_weaker c.let_out.result (λ text all from is i given at. text all from is i (c.in_ok-give.ensures.given all from is i given at)) c.let_out.ensures.text

pub returns-clause-count : goal.returns-clause-count
returns-clause-count g c = on_ok_weaker c.let_out.result (λ taken all from is i given at. c.in_ok-give.ensures.count all from is i given at) c.let_out.ensures.taken
