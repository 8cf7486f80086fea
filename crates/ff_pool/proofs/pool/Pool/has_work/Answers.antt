use Rattle.std.proofs.Common.{◌≡◌, ◌∙◌, ap, false}
use Rattle.ff_pool.specs.Heads.{new_head}
use Rattle.ff_pool.proofs.Reading.{read_work}
use Rattle.ff_pool.proofs.pool.Pool.has_work.Goals as goal

pub returns : goal.returns
returns g c =
    let unspent : c.self.inside.spent ≡ false = ap (λ p. p.spent) c.self.view_is ∙ c.requires.unspent in
    let none = new_head c.self.inside.fuel in
    c.has_work.ensures none
    ∙ read_work c.self.invariant unspent c.self.view_is (λ again. c.requires.level) c.from.ensures none
