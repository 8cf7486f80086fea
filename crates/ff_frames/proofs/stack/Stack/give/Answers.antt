use Rattle.std.proofs.Common.{refl, ◌∙◌}
use Rattle.std.proofs.lemmas.Result.{on_ok_weaker}
use Rattle.ff_frames.specs.declared.stack.Stack.{Stack}
use Rattle.ff_frames.proofs.Rewriting.{rewrote-value}
use Rattle.ff_frames.proofs.stack.Stack.give.Goals as goal

pub walk-requires : goal.walk-requires
walk-requires c =
    let t = c.drop_redex.new.self in
    let m : Stack = record { heads = t.heads; hand = c.hold_value.new.self; act = t.act; depth = t.depth } in
    (rewrote-value c.args.self.now t m c.args.value c.drop_redex.ensures refl c.in_ok-hold_value.ensures refl refl).ready

pub returns-clause-rewrites : goal.returns-clause-rewrites
returns-clause-rewrites c =
    let t = c.drop_redex.new.self in
    let m : Stack = record { heads = t.heads; hand = c.hold_value.new.self; act = t.act; depth = t.depth } in
    on_ok_weaker c.walk.result (λ same. same ∙ (rewrote-value c.args.self.now t m c.args.value c.drop_redex.ensures refl c.in_ok-hold_value.ensures refl refl).same) c.walk.ensures.same
