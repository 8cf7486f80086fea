use Rattle.std.proofs.Common.{ap, ap₂, ◌∙◌}
use Rattle.std.proofs.lemmas.Result.{IfOk-weaker}
use Rattle.ff_lattice.specs.Order.{size}
use Rattle.ff_pool.specs.Pooled as pooled
use Rattle.ff_session.proofs.Feeding.{fresh_copies}
use Rattle.ff_session.proofs.offered.new_pool.Goals as goal

pub returns : goal.returns
returns g c =
    let levels = c.size.ensures.value ∙ ap size c.lattice.ensures.value in
    record {
      pool = IfOk-weaker c.new.result _ _ (λ pool fresh. fresh ∙ ap₂ pooled.new_pool levels c.fuel.ensures.value) c.new.ensures;
      copies = IfOk-weaker c.new.result _ _ (λ pool fresh all. fresh_copies c.args.policy.now all pool c.size.result c.fuel.result levels c.fuel.ensures.value fresh) c.new.ensures;
    }
