use Rattle.std.proofs.Common.{◌≡◌, ◌∙◌, ◌++◌, ◌∷◌, [], ap, false, arith}
use Rattle.ff_machine.specs.Machine.{reactor}
use Rattle.ff_confinement.specs.Worlds.{new_world}
use Rattle.ff_pool.specs.Heads.{new_head}
use Rattle.ff_pool.proofs.Gathering.{gathered-new, kept-new}
use Rattle.ff_pool.proofs.Making.{made_more}
use Rattle.ff_pool.proofs.pool.Pool.new.Goals as goal

pub invariant_of-result : goal.invariant_of-result
invariant_of-result g c = λ unspent.
    let at = c.loop-level in
    kept-new c.args.fuel at._level at.heads.items at.puts.items at.leaders.items (omega arith) at.invariant.heads at.invariant.puts at.invariant.leaders

pub returns : goal.returns
returns g c =
    let at = c.loop-level in
    let all : at._level ≡ c.args.n = omega arith in
    ap (λ w. record { fuel = c.args.fuel; spent = false; world = w })
    (gathered-new c.args.fuel at._level at.heads.items at.puts.items at.leaders.items at.invariant.heads at.invariant.puts at.invariant.leaders
    ∙ ap (new_world (reactor c.args.fuel)) all)

pub loop-level-preserved : goal.loop-level-preserved
loop-level-preserved g c =
    let at = c.loop-level in
    record {
      heads = c.in_ok-push.ensures.items ∙ ap (λ head. at.heads.items ++ head ∷ []) c.new.ensures ∙ made_more (new_head c.args.fuel) at.heads.items at._level at.invariant.heads;
      puts = c.in_ok-push-2.ensures.items ∙ ap (λ outs. at.puts.items ++ outs ∷ []) c.new-in-loop-level.ensures ∙ made_more [] at.puts.items at._level at.invariant.puts;
      leaders = c.in_ok-push-3.ensures.items ∙ made_more 0 at.leaders.items at._level at.invariant.leaders;
    }
