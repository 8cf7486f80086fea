use Rattle.std.proofs.Common.{refl, rules}
use Rattle.ff_frames.proofs.Rewriting.{enough, left, some-frame, top-of}
use Rattle.ff_frames.proofs.stack.Stack.leave.Goals as goal

pub go_out_of-requires : goal.go_out_of-requires
go_out_of-requires c =
    let s = c.args.self.now in
    let top = top-of s _ c.in-Some.head c.in-Some.ensures.items c.requires.free c.requires.valid in
    enough s _ c.in-Some.head top c.requires.valid

pub unreachable-requires : goal.unreachable-requires
unreachable-requires c = some-frame c.args.self.now (search rules) c.requires.free c.requires.open

pub returns-clause-rewrites : goal.returns-clause-rewrites
returns-clause-rewrites c =
    let s = c.args.self.now in
    let items = c.in-Some.ensures.items in
    let top = top-of s _ c.in-Some.head items c.requires.free c.requires.valid in
    left s c.go_out_of.new.self _ c.in-Some.head items top c.requires.valid _ (c.requires.bare _ c.in-Some.head items) refl refl refl refl c.requires.free c.go_out_of.ensures
