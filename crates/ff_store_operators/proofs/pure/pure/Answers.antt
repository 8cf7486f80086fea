use Rattle.std.proofs.Common.{◌≤◌, sym, subst}
use Rattle.ff_operators.specs.Limits.{most_mass}
use Rattle.ff_operators.specs.Pure as pure
use Rattle.ff_laws.proofs.LaterOperators.{apply}
use Rattle.ff_store_operators.proofs.Doing.{light}
use Rattle.ff_store_operators.proofs.pure.pure.Goals as goal

pub set_mass-requires : goal.set_mass-requires
set_mass-requires c =
    let within : c.mass.result ≤ most_mass = subst (λ k. k ≤ most_mass) (sym c.mass.ensures.value) c.mass.ensures.valid.light in
    light c.mass.result (pure.apply c.args.op c.args.args.now c.mass.result) c.in_ok-applied.applied (apply c.args.op c.args.args.now c.mass.result) within c.in_ok-applied.ensures
