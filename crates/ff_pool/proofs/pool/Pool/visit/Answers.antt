use Rattle.std.proofs.Common.{◌≡◌, ◌∙◌, ap, false}
use Rattle.ff_pool.proofs.Reading.{read_spelled}
use Rattle.ff_pool.proofs.Slicing.{visit_fewer, visit_kept, visit_most, visit_on, visit_within}
use Rattle.ff_pool.proofs.pool.Pool.visit.Goals as goal

pub steps-requires-clause-spelled : goal.steps-requires-clause-spelled
steps-requires-clause-spelled g c = λ d.
    let unspent : c.self.inside.spent ≡ false = ap (λ p. p.spent) c.self.view_is ∙ c.requires.unspent in
    read_spelled c.self.invariant unspent c.self.view_is (λ again. c.requires.level) c.from.ensures d

pub returns-in_err-steps-clause-most : goal.returns-in_err-steps-clause-most
returns-in_err-steps-clause-most g c =
    let unspent : c.self.inside.spent ≡ false = ap (λ p. p.spent) c.self.view_is ∙ c.requires.unspent in
    visit_within c.self.invariant unspent c.self.view_is c.requires.level c.requires.work
    c.from.ensures c.args.turns.now c.steps.new.turns c.in_err-steps.ensures.most

pub invariant_of-self-2 : goal.invariant_of-self-2
invariant_of-self-2 g c = λ still.
    let s = c.self.inside in
    let unspent : s.spent ≡ false = ap (λ p. p.spent) c.self.view_is ∙ c.requires.unspent in
    visit_kept c.self.invariant unspent c.self.view_is c.requires.level c.requires.work
    c.from.ensures c.steps.ensures.leaders c.in_ok-steps.ensures.done

pub returns-clause-on : goal.returns-clause-on
returns-clause-on g c =
    let s = c.self.inside in
    let unspent : s.spent ≡ false = ap (λ p. p.spent) c.self.view_is ∙ c.requires.unspent in
    visit_on c.self.invariant unspent c.self.view_is c.requires.level c.requires.work
    c.from.ensures c.steps.ensures.leaders c.in_ok-steps.ensures.done

pub returns-clause-fewer : goal.returns-clause-fewer
returns-clause-fewer g c =
    let s = c.self.inside in
    let unspent : s.spent ≡ false = ap (λ p. p.spent) c.self.view_is ∙ c.requires.unspent in
    visit_fewer c.self.invariant unspent c.self.view_is c.requires.level c.requires.work
    c.from.ensures c.steps.ensures.leaders c.in_ok-steps.ensures.done

pub returns-clause-most : goal.returns-clause-most
returns-clause-most g c =
    let s = c.self.inside in
    let unspent : s.spent ≡ false = ap (λ p. p.spent) c.self.view_is ∙ c.requires.unspent in
    visit_most c.self.invariant unspent c.self.view_is c.requires.level c.requires.work
    c.from.ensures c.steps.ensures.leaders c.in_ok-steps.ensures.done
