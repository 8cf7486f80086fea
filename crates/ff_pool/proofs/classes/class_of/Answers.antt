use Rattle.std.proofs.Common.{◌∙◌, ℕ, Bool, ◌==◌, arith}
use Rattle.std.proofs.lemmas.Bool.{eq-eqb, ne_eqb}
use Rattle.ff_confinement.specs.Worlds.{leader}
use Rattle.ff_pool.proofs.Members.{class_start, class_with, class_without, class_done}
use Rattle.ff_pool.proofs.classes.class_of.Goals as goal
use Rattle.ff_pool.proofs.classes.class_of.Goals.{then-leaders-k, else-leaders-k}

pub loop-k-init : goal.loop-k-init
loop-k-init c = c.empty-class.ensures ∙ class_start (λ k. leader c.args.leaders.now k == leader c.args.leaders.now c.args.l)

pub loop-k-preserved : goal.loop-k-preserved
loop-k-preserved c =
    let leaders = c.args.leaders.now in
    let test : ℕ → Bool = λ k. leader leaders k == leader leaders c.args.l in
    elim c.if-leaders-k.branch [
      | then-leaders-k w ↦
          w.class-is ∙ w.with-class.ensures
          ∙ class_with test c.loop-k.k c.loop-k.class (eq-eqb (leader leaders c.loop-k.k) (leader leaders c.args.l) w.if-leaders-k.true) c.loop-k.invariant
      | else-leaders-k w ↦
          w.class-is ∙ class_without test c.loop-k.k c.loop-k.class (ne_eqb (leader leaders c.loop-k.k) (leader leaders c.args.l) w.if-leaders-k.false) c.loop-k.invariant
    ]

pub returns : goal.returns
returns c = class_done c.args.leaders.now c.args.l c.loop-k.k c.loop-k.class (omega arith) c.loop-k.invariant
