use Rattle.std.proofs.Common.{◌++◌, ◌∷◌, [], sym, ap, ap₂, ◌∙◌}
use Rattle.ff_pool.proofs.Leaders.{classes_more, classes_same}
use Rattle.ff_pool.proofs.leading.classes_of.Goals as goal
use Rattle.ff_pool.proofs.leading.classes_of.Goals.{then-leaders-l+in_ok-push, else-leaders-l}

pub loop-l-preserved : goal.loop-l-preserved
loop-l-preserved c =
    elim c.if-leaders-l.branch [
      | then-leaders-l+in_ok-push w ↦
          ap (λ v. v.items) w.classes-is ∙ w.in_ok-push.ensures.items ∙ ap₂ (λ xs x. xs ++ x ∷ []) c.loop-l.invariant w.class_of.ensures
          ∙ sym (classes_more c.args.leaders.now c.loop-l.l w.if-leaders-l.true)
      | else-leaders-l w ↦ ap (λ v. v.items) w.classes-is ∙ c.loop-l.invariant ∙ sym (classes_same c.args.leaders.now c.loop-l.l w.if-leaders-l.false)
    ]
