use Rattle.std.proofs.Common.{◌++◌, ◌∷◌, [], refl, ap, ◌∙◌, rules}
use Rattle.ff_term.specs.Running.{Done}
use Rattle.ff_frames.specs.Frames.{wrap}
use Rattle.ff_frames.specs.Heads.{with_values}
use Rattle.ff_frames.specs.declared.stack.Stack.{Stack}
use Rattle.ff_frames.proofs.Rewriting.{enough-values, frame-gone, frame-is, last-count, last-values, out-part, some-frame, test-free, tested, top-of}
use Rattle.ff_frames.proofs.stack.Stack.take_test.Goals as goal

pub drop_values-requires : goal.drop_values-requires
drop_values-requires c =
    let s = c.args.self.now in
    enough-values s _ c.in-Some.head c.in-Some.ensures.items (test-free s c.requires.valid c.requires.test) c.requires.valid

pub form_of-requires : goal.form_of-requires
form_of-requires c =
    let s = c.args.self.now in
    let top = top-of s _ c.in-Some.head c.in-Some.ensures.items (test-free s c.requires.valid c.requires.test) c.requires.valid in
    tested c.in-Some.head top.own s.act top.value (rw (frame-is s _ c.in-Some.head top c.requires.valid) at c.requires.test)

pub returns-clause-out : goal.returns-clause-out
returns-clause-out c =
    let s = c.args.self.now in
    let free = test-free s c.requires.valid c.requires.test in
    let top = top-of s _ c.in-Some.head c.in-Some.ensures.items free c.requires.valid in
    let u : Stack = record { heads = c.pop.new.self; hand = c.drop_values.new.self; act = s.act; depth = s.depth } in
    frame-gone s _ c.in-Some.head top c.requires.valid c.in-Some.ensures.items u u refl
    (c.drop_values.ensures.left top.below (top.own ++ top.value ∷ []) (last-values s _ c.in-Some.head top c.requires.valid) (last-count s _ c.in-Some.head top c.requires.valid))
    (c.drop_values.ensures.form ∙ free) refl refl (out-part u u c.in-Some.head c.form_of.result c.form_of.ensures.is.0 c.form_of.ensures.is.1 refl)

pub returns-clause-is : goal.returns-clause-is
returns-clause-is c =
    let s = c.args.self.now in
    let top = top-of s _ c.in-Some.head c.in-Some.ensures.items (test-free s c.requires.valid c.requires.test) c.requires.valid in
    (top.own, top.value, frame-is s _ c.in-Some.head top c.requires.valid ∙ ap (λ f. wrap (with_values f top.own) s.act (Done top.value)) c.form_of.ensures.is.1)

pub unreachable-requires : goal.unreachable-requires
unreachable-requires c =
    let s = c.args.self.now in
    let free = test-free s c.requires.valid c.requires.test in
    some-frame s (search rules) free c.requires.open
