use Rattle.std.proofs.Common.{◌+◌, ◌++◌, ap, ◌∙◌, arith}
use Rattle.std.proofs.lemmas.Result.{on_ok_weaker}
use Rattle.ff_contract.proofs.Sequence.{appends_ok}
use Rattle.ff_travel.proofs.Force.{travelled_on, text_is, turns_are}
use Rattle.ff_travel.proofs.traveller.TravellerTaker.take.Goals as goal

pub returns-clause-taken : goal.returns-clause-taken
returns-clause-taken g c =
    on_ok_weaker c.apply.result (λ done start commands at. travelled_on c.args.self.now.policy.now c.args.state.now commands at c.args.item.now c.apply.new.self done) c.apply.ensures.done

pub returns-clause-text : goal.returns-clause-text
returns-clause-text g c =
    on_ok_weaker c.apply.result (λ text start commands at. text ∙ ap (λ t. c.args.text.now.items ++ t) (text_is c.args.self.now.policy.now c.args.state.now commands at c.args.item.now)) (appends_ok _ _ _ _ c.apply.ensures.text)

pub returns-clause-count : goal.returns-clause-count
returns-clause-count g c =
    on_ok_weaker c.apply.result (λ count start commands at. count ∙ ap (λ n. c.args.turns.now + n) (turns_are c.args.self.now.policy.now c.args.state.now commands at c.args.item.now)) c.apply.ensures.count

pub returns-clause-most : goal.returns-clause-most
returns-clause-most g c = λ start commands at.
    let same = turns_are c.args.self.now.policy.now c.args.state.now commands at c.args.item.now in
    let most = c.apply.ensures.most in
    omega (arith, same, most)
