use Rattle.std.proofs.Common.{◌+◌, refl}
use Rattle.std.proofs.lemmas.Result.{on_ok_weaker}
use Rattle.ff_term.specs.Whole.{whole}
use Rattle.ff_frames.specs.Frames.{shown}
use Rattle.ff_frames.specs.declared.frame.Head.TheVariants as head
use Rattle.ff_frames.specs.declared.stack.Stack.{Stack}
use Rattle.ff_frames.proofs.Rewriting.{called, called-counted, empty-pushed, frames-pushed}
use Rattle.ff_frames.proofs.stack.Stack.enter.Goals as goal

pub walk_from-requires-clause-empty : goal.walk_from-requires-clause-empty
walk_from-requires-clause-empty c =
    let t = c.drop_redex.new.self in empty-pushed t.heads.items _ t.hand (head.Inside t.act) c.drop_redex.ensures.empty refl c.in_ok-push.ensures.items

pub walk_from-requires-clause-counted : goal.walk_from-requires-clause-counted
walk_from-requires-clause-counted c =
    let t = c.drop_redex.new.self in
    let u : Stack = record { heads = c.push.new.self; hand = t.hand; act = c.args.act; depth = t.depth + 1 } in
    called-counted c.args.self.now t u t.act c.requires.valid c.drop_redex.ensures c.requires.shallow
    (frames-pushed t.heads.items _ t.hand (head.Inside t.act) c.drop_redex.ensures.empty refl c.in_ok-push.ensures.items) refl

pub returns-clause-rewrites : goal.returns-clause-rewrites
returns-clause-rewrites c =
    let t = c.drop_redex.new.self in
    let u : Stack = record { heads = c.push.new.self; hand = t.hand; act = c.args.act; depth = t.depth + 1 } in
    on_ok_weaker c.walk_from.result
    (called c.args.self.now t u c.walk_from.new.self (shown c.in_ok-part.part) (whole c.args.body.now) c.drop_redex.ensures
    (frames-pushed t.heads.items _ t.hand (head.Inside t.act) c.drop_redex.ensures.empty refl c.in_ok-push.ensures.items) c.in_ok-part.ensures.same)
    c.walk_from.ensures.same
