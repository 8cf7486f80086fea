use Rattle.std.proofs.Common.{refl}
use Rattle.std.proofs.lemmas.Result.{on_ok_weaker}
use Rattle.ff_frames.specs.declared.stack.Stack.{Stack}
use Rattle.ff_frames.proofs.Rewriting.{all_ok, walked-same, walked-valid}
use Rattle.ff_frames.proofs.stack.Stack.walk.Goals as goal

pub returns-clause-same : goal.returns-clause-same
returns-clause-same c =
    let m = c.args.self.now in
    let u : Stack = record { heads = c.seek.new.heads; hand = c.seek.new.hand; act = m.act; depth = m.depth } in
    on_ok_weaker c.seek.result (walked-same m u refl) c.seek.ensures.there

pub returns-clause-valid : goal.returns-clause-valid
returns-clause-valid c =
    let m = c.args.self.now in
    let u : Stack = record { heads = c.seek.new.heads; hand = c.seek.new.hand; act = m.act; depth = m.depth } in
    all_ok c.seek.result (walked-valid m u refl c.requires.counted) c.seek.ensures.fit c.seek.ensures.there c.seek.ensures.laid
