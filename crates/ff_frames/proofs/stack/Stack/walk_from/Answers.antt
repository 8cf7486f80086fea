use Rattle.std.proofs.Common.{refl, ◌∙◌}
use Rattle.std.proofs.lemmas.Result.{on_ok_weaker}
use Rattle.ff_frames.specs.declared.stack.Stack.{Stack}
use Rattle.ff_frames.proofs.Rewriting.{held-ready, held-same}
use Rattle.ff_frames.proofs.stack.Stack.walk_from.Goals as goal

pub walk-requires : goal.walk-requires
walk-requires c =
    let s = c.args.self.now in
    let m : Stack = record { heads = s.heads; hand = c.hold.new.self; act = s.act; depth = s.depth } in
    held-ready s m c.args.part c.requires.empty c.requires.fit c.requires.counted c.requires.settled refl c.in_ok-hold.ensures refl refl

pub returns-clause-same : goal.returns-clause-same
returns-clause-same c =
    let s = c.args.self.now in
    let m : Stack = record { heads = s.heads; hand = c.hold.new.self; act = s.act; depth = s.depth } in
    on_ok_weaker c.walk.result
    (λ same. same ∙ held-same s m c.args.part c.requires.empty c.requires.fit c.requires.counted c.requires.settled refl c.in_ok-hold.ensures refl refl)
    c.walk.ensures.same
