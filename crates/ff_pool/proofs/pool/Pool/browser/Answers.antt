use Rattle.std.proofs.Common.{◌≡◌, ◌∙◌, ap, false}
use Rattle.ff_pool.specs.Heads.{new_head}
use Rattle.ff_pool.proofs.Reading.{read_state}
use Rattle.ff_pool.proofs.pool.Pool.browser.Goals as goal

pub returns : goal.returns
returns g c =
    let unspent : c.self.inside.spent ≡ false = ap (λ p. p.spent) c.self.view_is ∙ c.requires.unspent in
    let none = new_head c.self.inside.fuel in
    c.browser.ensures none
    ∙ read_state c.self.invariant unspent c.self.view_is (λ again. c.requires.level) c.from.ensures none
