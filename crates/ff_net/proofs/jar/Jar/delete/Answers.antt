use Rattle.std.proofs.Common.{[], arith, sym, ap, ◌∙◌}
use Rattle.ff_machine.specs.Net as net
use Rattle.ff_net.proofs.Cookies.{cookie_total, cookie_exact, cookie_place, cookies_deleted}
use Rattle.ff_net.proofs.Keyed.{apart_out, taken_out, nothing_removed}
use Rattle.ff_net.proofs.jar.Jar.delete.Goals as goal

pub invariant_of-self : goal.invariant_of-self
invariant_of-self g c =
    let place = cookie_place c.args.domain.now c.args.key.now c.self.inside.cookies c.place_of-place.result c.place_of-place.ensures in
    cookies_deleted c.self.inside.cookies c.swap_remove.new.self c.args.domain.now c.args.key.now c.self.invariant
    (apart_out cookie_total cookie_exact _ _ _ place c.self.invariant.apart (([], []), []) (omega arith) c.swap_remove.new.self c.in_ok-swap_remove.ensures.done)
    (taken_out cookie_total cookie_exact _ _ _ place c.self.invariant.apart (([], []), []) (omega arith) c.swap_remove.new.self c.in_ok-swap_remove.ensures.done)

pub returns-in_ok-swap_remove-clause-done : goal.returns-in_ok-swap_remove-clause-done
returns-in_ok-swap_remove-clause-done g c =
    let place = cookie_place c.args.domain.now c.args.key.now c.self.inside.cookies c.place_of-place.result c.place_of-place.ensures in
    taken_out cookie_total cookie_exact _ _ _ place c.self.invariant.apart (([], []), []) (omega arith) c.swap_remove.new.self c.in_ok-swap_remove.ensures.done
    ∙ ap (λ jar. net.cookie_deleted jar c.args.domain.now c.args.key.now) c.self.view_is

pub returns-else-place-len-clause-done : goal.returns-else-place-len-clause-done
returns-else-place-len-clause-done g c =
    let place = cookie_place c.args.domain.now c.args.key.now c.self.inside.cookies c.place_of-place.result c.place_of-place.ensures in
    sym c.self.view_is
    ∙ nothing_removed cookie_total cookie_exact _ _ _ place (omega arith)
    ∙ ap (λ jar. net.cookie_deleted jar c.args.domain.now c.args.key.now) c.self.view_is
