use Rattle.std.proofs.Common.{refl, sym, ◌∙◌}
use Rattle.std.proofs.lemmas.Result.{on_ok_weaker}
use Rattle.ff_tree.specs.declared.tree.Expr.TheVariants as expr
use Rattle.ff_value.specs.declared.value.Val.TheVariants as val
use Rattle.ff_frames.proofs.Locals.{put-shown, put-turn, put-value}
use Rattle.ff_frames.proofs.row.put_branch.Goals as goal
use Rattle.ff_frames.proofs.row.put_branch.Goals.{then-yes, else-yes}

pub returns-in-If : goal.returns-in-If
returns-in-If c =
    on_ok_weaker c.hold_body.result
    (λ xs vs v. put-shown c.if-yes.hold_body.now _ c.args.heads.now.items c.args.hand.now c.hold_body.new.self
    (λ a. elim c.if-yes.branch [
      | then-yes w ↦ rw (w.hold_body-is, w.if-yes.true, ← c.get.ensures, c.in-If.is, expr.outs-If c.in-If.field-0 c.in-If.left c.in-If.right) refl
      | else-yes w ↦ rw (w.hold_body-is, w.if-yes.false, ← c.get.ensures, c.in-If.is, expr.outs-If c.in-If.field-0 c.in-If.left c.in-If.right) refl
    ]) xs)
    c.hold_body.ensures

pub returns-then-yes-2 : goal.returns-then-yes-2
returns-then-yes-2 c = λ vs v.
    rw c.if-yes-2.true
    (put-turn c.args.form c.in-While.field-0 c.in-While.body vs v c.args.heads.now.items _ c.args.hand.now c.hold_body-then-yes-2.new.self
    (sym c.get.ensures ∙ c.in-While.is) c.in_ok-hold_body-in-While.ensures c.in_ok-push-in-While.ensures.items)

pub returns-in-While : goal.returns-in-While
returns-in-While c =
    on_ok_weaker c.hold_value.result
    (λ i vs v. put-value val.Null _ c.args.heads.now.items c.args.hand.now c.hold_value.new.self
    (λ a. rw (c.if-yes-2.false, ← c.get.ensures, c.in-While.is, expr.outs-While c.in-While.field-0 c.in-While.body) refl) i)
    c.hold_value.ensures

pub returns-then-yes-3 : goal.returns-then-yes-3
returns-then-yes-3 c =
    on_ok_weaker c.hold_body-then-yes-3.result
    (λ xs vs v. put-shown c.in-And.right _ c.args.heads.now.items c.args.hand.now c.hold_body-then-yes-3.new.self
    (λ a. rw (c.if-yes-3.true, ← c.get.ensures, c.in-And.is, expr.outs-And c.in-And.field-0 c.in-And.right) refl) xs)
    c.hold_body-then-yes-3.ensures

pub returns-in-And : goal.returns-in-And
returns-in-And c =
    on_ok_weaker c.hold_value-else-yes-3.result
    (λ i vs v. put-value _ _ c.args.heads.now.items c.args.hand.now c.hold_value-else-yes-3.new.self
    (λ a. rw (c.if-yes-3.false, ← c.get.ensures, c.in-And.is, expr.outs-And c.in-And.field-0 c.in-And.right) refl) i)
    c.hold_value-else-yes-3.ensures

pub returns-then-yes-4 : goal.returns-then-yes-4
returns-then-yes-4 c =
    on_ok_weaker c.hold_value-then-yes-4.result
    (λ i vs v. put-value _ _ c.args.heads.now.items c.args.hand.now c.hold_value-then-yes-4.new.self
    (λ a. rw (c.if-yes-4.true, ← c.get.ensures, c.in-Or.is, expr.outs-Or c.in-Or.field-0 c.in-Or.right) refl) i)
    c.hold_value-then-yes-4.ensures

pub returns-in-Or : goal.returns-in-Or
returns-in-Or c =
    on_ok_weaker c.hold_body-else-yes-4.result
    (λ xs vs v. put-shown c.in-Or.right _ c.args.heads.now.items c.args.hand.now c.hold_body-else-yes-4.new.self
    (λ a. rw (c.if-yes-4.false, ← c.get.ensures, c.in-Or.is, expr.outs-Or c.in-Or.field-0 c.in-Or.right) refl) xs)
    c.hold_body-else-yes-4.ensures
