use Rattle.std.proofs.Common.{◌+◌, List, drop, sym, ◌∙◌, subst, arith}
use Rattle.ff_lattice.specs.declared.pair.Pair.{Pair}
use Rattle.ff_policy.proofs.Arrays.{Gathers, pair_shape, pairs_stop, pairs_step, pairs_done}
use Rattle.ff_policy.proofs.shapes.pairs_of.Goals as goal

pub returns-in-None : goal.returns-in-None
returns-in-None c = sym (pairs_stop c.args.items.now c.loop-item.pairs.items c.loop-item.item-index c.item-item.result c.loop-item.invariant (omega arith) c.item-item.is (sym c.in_ok-pair_of.ensures ∙ c.in-None.is))

pub loop-item-preserved : goal.loop-item-preserved
loop-item-preserved c =
    subst (λ (pairs : List Pair). Gathers pair_shape c.args.items.now pairs (drop (c.loop-item.item-index + 1) c.args.items.now))
    (sym c.in_ok-push-in-Some.ensures.items)
    (pairs_step c.args.items.now c.loop-item.pairs.items c.loop-item.item-index c.item-item.result c.in-Some.pair c.loop-item.invariant (omega arith) c.item-item.is (sym c.in_ok-pair_of.ensures ∙ c.in-Some.is))

pub returns : goal.returns
returns c = sym (pairs_done c.args.items.now c.loop-item.pairs.items c.loop-item.item-index c.loop-item.invariant (omega arith))
