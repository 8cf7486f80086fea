use Rattle.std.proofs.Common.{arith, sym, ap, ◌∙◌, Some}
use Rattle.ff_machine.specs.Net as net
use Rattle.ff_net.proofs.Cookies.{cookie_total, cookie_exact, cookie_place}
use Rattle.ff_net.proofs.Keyed.{value_there, no_value}
use Rattle.ff_net.proofs.jar.Jar.get.Goals as goal

pub returns-then-place-len : goal.returns-then-place-len
returns-then-place-len c =
    let place = cookie_place c.args.domain.now c.args.key.now c.self.inside.cookies c.place_of-place.result c.place_of-place.ensures in
    ap Some c.value.ensures
    ∙ sym (value_there cookie_total cookie_exact _ _ _ place c.at.result.now c.at.ensures)
    ∙ ap (λ jar. net.cookie jar c.args.domain.now c.args.key.now) c.self.view_is

pub returns-else-place-len : goal.returns-else-place-len
returns-else-place-len c =
    let place = cookie_place c.args.domain.now c.args.key.now c.self.inside.cookies c.place_of-place.result c.place_of-place.ensures in
    sym (no_value cookie_total cookie_exact _ _ _ place (omega arith))
    ∙ ap (λ jar. net.cookie jar c.args.domain.now c.args.key.now) c.self.view_is
