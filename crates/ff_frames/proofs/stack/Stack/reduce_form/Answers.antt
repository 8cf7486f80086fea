use Rattle.std.proofs.Common.{refl, sym, ap, ◌∙◌}
use Rattle.std.proofs.lemmas.Result.{on_ok_weaker}
use Rattle.ff_tree.specs.declared.tree.Expr.{out-Expr}
use Rattle.ff_term.specs.Rows.{local_row}
use Rattle.ff_term.specs.Running.{redex}
use Rattle.ff_term.specs.Whole.{layer}
use Rattle.ff_frames.specs.Stacks.{evaluation}
use Rattle.ff_frames.specs.declared.stack.Stack.{Stack}
use Rattle.ff_frames.proofs.Rewriting.{form-gone, form-layer, form-row, rewrote}
use Rattle.ff_frames.proofs.stack.Stack.reduce_form.Goals as goal

pub put_form-requires-clause-row : goal.put_form-requires-clause-row
put_form-requires-clause-row c = form-row c.args.self.now c.in-Some.form (sym c.take_form.ensures.form ∙ c.in-Some.is) c.requires.valid

pub put_form-requires-clause-local : goal.put_form-requires-clause-local
put_form-requires-clause-local c =
    let s = c.args.self.now in
    rw (form-layer s c.in-Some.form c.in-Some.form (sym c.take_form.ensures.form ∙ c.in-Some.is) refl c.requires.valid) at c.requires.local

pub returns : goal.returns
returns c =
    let s = c.args.self.now in
    let form = c.in-Some.form in
    let there = sym c.take_form.ensures.form ∙ c.in-Some.is in
    let t : Stack = record { heads = s.heads; hand = c.take_form.new.self; act = s.act; depth = s.depth } in
    let m : Stack = record { heads = c.put_form.new.heads; hand = c.put_form.new.hand; act = s.act; depth = s.depth } in
    on_ok_weaker c.put_form.result
    (λ on. rewrote s t m (local_row (redex (evaluation s).expr)) (λ a. local_row (layer (out-Expr form)))
    (form-gone s t form there refl c.take_form.ensures.rest refl refl c.requires.valid) refl refl on
    (ap local_row (sym (form-layer s form form there refl c.requires.valid))))
    c.put_form.ensures
