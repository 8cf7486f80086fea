use Rattle.std.proofs.Common.{refl, sym, ap, ◌∙◌}
use Rattle.std.proofs.lemmas.Result.{on_ok_weaker}
use Rattle.ff_term.specs.Rows.{branch}
use Rattle.ff_tree.specs.declared.tree.Expr.{out-Expr}
use Rattle.ff_term.specs.Running.{Done, redex}
use Rattle.ff_frames.specs.Frames.{around}
use Rattle.ff_frames.specs.Stacks.{evaluation}
use Rattle.ff_frames.specs.declared.stack.Stack.{Stack}
use Rattle.ff_frames.proofs.Rewriting.{rewrote}
use Rattle.ff_frames.proofs.stack.Stack.choose.Goals as goal

pub walk-requires : goal.walk-requires
walk-requires c =
    let s = c.args.self.now in
    let t = c.take_test-form.new.self in
    let is = c.take_test-form.ensures.is in
    let m : Stack = record { heads = c.put_branch.new.heads; hand = c.put_branch.new.hand; act = t.act; depth = t.depth } in
    (rewrote s t m (branch c.args.yes (redex (evaluation s).expr)) (λ a. branch c.args.yes (around (out-Expr c.take_test-form.result) is.0 (Done is.1)))
    c.take_test-form.ensures.out refl refl (c.in_ok-put_branch.ensures is.0 is.1) (ap (branch c.args.yes) (sym is.2))).ready

pub returns-clause-rewrites : goal.returns-clause-rewrites
returns-clause-rewrites c =
    let s = c.args.self.now in
    let t = c.take_test-form.new.self in
    let is = c.take_test-form.ensures.is in
    let m : Stack = record { heads = c.put_branch.new.heads; hand = c.put_branch.new.hand; act = t.act; depth = t.depth } in
    on_ok_weaker c.walk.result (λ same. same ∙ (rewrote s t m (branch c.args.yes (redex (evaluation s).expr)) (λ a. branch c.args.yes (around (out-Expr c.take_test-form.result) is.0 (Done is.1)))
    c.take_test-form.ensures.out refl refl (c.in_ok-put_branch.ensures is.0 is.1) (ap (branch c.args.yes) (sym is.2))).same) c.walk.ensures.same
