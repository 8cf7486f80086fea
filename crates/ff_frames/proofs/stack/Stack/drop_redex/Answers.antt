use Rattle.std.proofs.Common.{◌++◌, ◌∷◌, [], refl, sym, ◌∙◌}
use Rattle.ff_frames.proofs.Heads.{untouched}
use Rattle.ff_frames.proofs.Rewriting.{enough, enough-values, form-gone, frame-gone, last-count, last-values, top-of}
use Rattle.ff_frames.proofs.stack.Stack.drop_redex.Goals as goal

pub drop_values-requires : goal.drop_values-requires
drop_values-requires c =
    let free = sym c.take_form.ensures.form ∙ c.in-None.is in
    rw (untouched c.args.self.now.hand c.take_form.new.self c.take_form.ensures.rest free)
    (enough-values c.args.self.now _ c.in-Some-pop.head c.in-Some-pop.ensures.items free c.requires.valid)

pub go_out_of-requires : goal.go_out_of-requires
go_out_of-requires c =
    let free = sym c.take_form.ensures.form ∙ c.in-None.is in
    let top = top-of c.args.self.now _ c.in-Some-pop.head c.in-Some-pop.ensures.items free c.requires.valid in
    enough c.args.self.now _ c.in-Some-pop.head top c.requires.valid

pub returns-in-Some : goal.returns-in-Some
returns-in-Some c = form-gone c.args.self.now _ _ (sym c.take_form.ensures.form ∙ c.in-Some.is) refl c.take_form.ensures.rest refl refl c.requires.valid

pub returns-in-Some-pop : goal.returns-in-Some-pop
returns-in-Some-pop c =
    let s = c.args.self.now in
    let free = sym c.take_form.ensures.form ∙ c.in-None.is in
    let top = top-of s _ c.in-Some-pop.head c.in-Some-pop.ensures.items free c.requires.valid in
    let same = untouched s.hand c.take_form.new.self c.take_form.ensures.rest free in
    frame-gone s _ c.in-Some-pop.head top c.requires.valid c.in-Some-pop.ensures.items _ c.go_out_of.new.self refl
    (c.drop_values.ensures.left top.below (top.own ++ top.value ∷ []) (rw same (last-values s _ c.in-Some-pop.head top c.requires.valid)) (last-count s _ c.in-Some-pop.head top c.requires.valid))
    (c.drop_values.ensures.form ∙ rw same free) refl refl c.go_out_of.ensures
