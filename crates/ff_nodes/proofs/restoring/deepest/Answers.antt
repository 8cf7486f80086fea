use Rattle.std.proofs.Common.{◌≤◌, subst, arith}
use Rattle.std.specs.List.{All}
use Rattle.std.proofs.lemmas.List.{take_all}
use Rattle.std.proofs.lemmas.List.Elements.{All-more}
use Rattle.ff_nodes.proofs.restoring.deepest.Goals.{then-depth-most, else-depth-most}
use Rattle.ff_nodes.proofs.restoring.deepest.Goals as goal

pub loop-depth-preserved : goal.loop-depth-preserved
loop-depth-preserved c = elim c.if-depth-most.branch [
  | then-depth-most w ↦
      All-more (λ d. d ≤ c.if-depth-most.most) c.args.depths.now c.loop-depth.depth-index 0 c.loop-depth-test.true
      (λ k d less. let before = c.loop-depth.invariant k d less in omega (arith, before, w.if-depth-most.true, w.most-is)) (omega (arith, w.most-is))
  | else-depth-most w ↦
      All-more (λ d. d ≤ c.if-depth-most.most) c.args.depths.now c.loop-depth.depth-index 0 c.loop-depth-test.true
      (λ k d less. let before = c.loop-depth.invariant k d less in omega (arith, before, w.most-is)) (omega (arith, w.if-depth-most.false, w.most-is))
]

pub returns : goal.returns
returns c = subst (All (λ d. d ≤ c.loop-depth.most)) (take_all c.loop-depth.depth-index c.args.depths.now (omega (arith, c.loop-depth-test.false))) c.loop-depth.invariant
