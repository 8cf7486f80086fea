use Rattle.std.proofs.Common.{ap, sym, ◌∙◌}
use Rattle.std.proofs.lemmas.Result.{on_ok_weaker}
use Rattle.ff_term.specs.Running.{rewritten_in}
use Rattle.ff_frames.specs.Stacks.{evaluation}
use Rattle.ff_frames.proofs.Rewriting.{binding-bare, binding-free}
use Rattle.ff_frames.proofs.stack.Stack.keep.Goals as goal

pub leave-requires-clause-free : goal.leave-requires-clause-free
leave-requires-clause-free c = binding-free c.args.self.now c.requires.valid c.requires.binding

pub leave-requires-clause-bare : goal.leave-requires-clause-bare
leave-requires-clause-bare c = λ rest f was. (binding-bare c.args.self.now rest f was c.requires.valid c.requires.binding).0

pub returns-clause-rewrites : goal.returns-clause-rewrites
returns-clause-rewrites c =
    let s = c.args.self.now in
    let framed = c.leave.ensures.framed in
    let value = (binding-bare s framed.0 framed.1 framed.2 c.requires.valid c.requires.binding).1 in
    on_ok_weaker c.walk.result (λ same. same ∙ c.leave.ensures.rewrites.same ∙ ap (λ x. rewritten_in (λ _. x) (evaluation s)) (sym value)) c.walk.ensures.same
