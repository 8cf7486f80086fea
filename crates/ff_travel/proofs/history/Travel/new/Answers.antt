use Rattle.std.proofs.Common.{false, refl, ap, ◌∙◌}
use Rattle.ff_lattice.specs.Order.{size}
use Rattle.ff_travel.specs.Beside.{history_of}
use Rattle.ff_travel.proofs.Carrying.{new_history, new_is}
use Rattle.ff_travel.proofs.history.Travel.new.Goals as goal

pub invariant_of-result : goal.invariant_of-result
invariant_of-result g c = λ unspent.
    let fresh = new_is c.args.policy.now c.in_ok-pool.pool (size c.args.policy.now.order) c.args.policy.now.fuel refl refl c.in_ok-pool.ensures.pool in
    rw c.new.ensures.items
    (new_history c.args.policy.now c.in_ok-pool.pool c.in_ok-puts.puts.items c.size.result fresh c.in_ok-puts.ensures (c.size.ensures.value ∙ ap size c.lattice.ensures.value)).1

pub returns : goal.returns
returns g c =
    let fresh = new_is c.args.policy.now c.in_ok-pool.pool (size c.args.policy.now.order) c.args.policy.now.fuel refl refl c.in_ok-pool.ensures.pool in
    ap (λ h. record { policy = c.args.policy.now; spent = false; history = h })
    (ap (λ ks. history_of ks c.in_ok-puts.puts.items c.in_ok-pool.pool) c.new.ensures.items
    ∙ (new_history c.args.policy.now c.in_ok-pool.pool c.in_ok-puts.puts.items c.size.result fresh c.in_ok-puts.ensures (c.size.ensures.value ∙ ap size c.lattice.ensures.value)).0)
