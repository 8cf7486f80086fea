use Rattle.std.proofs.Common.{◌≡◌, true, sym, ◌∙◌, arith}
use Rattle.ff_confinement.specs.Worlds.{keep_together}
use Rattle.ff_value.specs.Same.{same_input}
use Rattle.ff_pool.proofs.Parting.{leader_found}
use Rattle.ff_pool.proofs.classes.new_leader.Goals as goal

pub returns-then-keep_together : goal.returns-then-keep_together
returns-then-keep_together c =
    let together : keep_together same_input c.args.leaders.now c.args.offers.now c.loop-k.k c.args.l ≡ true = sym c.keep_together.ensures ∙ c.if-keep_together.true in
    leader_found c.args.leaders.now c.args.offers.now c.loop-k.k c.args.l (omega arith) c.loop-k.invariant (λ less. together)

pub returns : goal.returns
returns c =
    leader_found c.args.leaders.now c.args.offers.now c.args.l c.args.l (omega arith) (λ j less. c.loop-k.invariant j (omega arith)) (λ less. absurd (omega arith))
