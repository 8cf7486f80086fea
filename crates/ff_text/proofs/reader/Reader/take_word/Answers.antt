use Rattle.std.proofs.Common.{◌<◌, ◌≤◌, ◌∙◌, ◌+◌, length, arith, sym, subst, inl, inr}
use Rattle.ff_text.specs.Bytes.{is_word_byte}
use Rattle.ff_text.specs.Machine.{HasDigit}
use Rattle.ff_text.proofs.Runs.{some_front, some_err, front_made, last_word, takes_whole_word, begins_word, stops_some, blank_on}
use Rattle.ff_text.proofs.reader.Reader.take_word.Goals as goal

pub returns-then-not-is_empty : goal.returns-then-not-is_empty
returns-then-not-is_empty c =
    let some = some_front is_word_byte c.args.left.now c.word_front-n.result c.word_front-n.ensures.longest c.requires.some c.requires.word in
    let begun = begins_word c.args.self.now c.args.left.now c.word_front-n.result c.requires.mode some c.word_front-n.ensures.bound c.word_front-n.ensures.word ∙ c.in_ok-begin_run.ensures in
    (some, c.word_front-n.ensures.bound, front_made c.args.left.now c.word_front-n.result c.args.self.now _ c.word_front-n.ensures.bound (subst HasDigit (sym c.requires.mode) tt) begun)

pub returns-then-n-left : goal.returns-then-n-left
returns-then-n-left c =
    let some = some_front is_word_byte c.args.left.now c.word_front-n.result c.word_front-n.ensures.longest c.requires.some c.requires.word in
    (some, c.word_front-n.ensures.bound, last_word c.args.self.now c.put_word.new.self c.args.left.now c.word_front-n.result c.requires.mode (c.is_empty.ensures.0 c.if-not-is_empty.false) some c.if-n-left.true c.word_front-n.ensures.word c.in_ok-put_word.ensures)

pub returns-then-left-n-eq32 : goal.returns-then-left-n-eq32
returns-then-left-n-eq32 c =
    let some = some_front is_word_byte c.args.left.now c.word_front-n.result c.word_front-n.ensures.longest c.requires.some c.requires.word in
    let inside : c.word_front-n.result < length c.args.left.now = omega (arith, c.word_front-n.ensures.bound, c.if-n-left.false) in
    let within : c.word_front-n.result + 1 ≤ length c.args.left.now = omega (arith, inside) in (
      omega arith,
      within,
      front_made c.args.left.now (c.word_front-n.result + 1) c.args.self.now _ within (subst HasDigit (sym c.requires.mode) tt)
          (takes_whole_word c.args.self.now c.put_word.new.self c.args.left.now c.word_front-n.result _ c.requires.mode (c.is_empty.ensures.0 c.if-not-is_empty.false) some inside
          c.word_front-n.ensures.word (c.word_front-n.ensures.longest inside) c.in_ok-put_word.ensures (blank_on c.put_word.new.self _ c.if-left-n-eq32.true)),
    )

pub returns-in_err-take_outside : goal.returns-in_err-take_outside
returns-in_err-take_outside c =
    let some = some_front is_word_byte c.args.left.now c.word_front-n.result c.word_front-n.ensures.longest c.requires.some c.requires.word in
    let inside : c.word_front-n.result < length c.args.left.now = omega (arith, c.word_front-n.ensures.bound, c.if-n-left.false) in
    some_err c.from_residual-in_err-take_outside.result c.args.self.now c.take_outside.new.self c.args.left.now c.in_err-take_outside.field-0.0 c.from_residual-in_err-take_outside.ensures.1
    (elim c.in_err-take_outside.ensures [
      | inl memory ↦ inl memory
      | inr stopped ↦ inr (stops_some c.args.left.now (c.word_front-n.result + 1) c.args.self.now c.in_err-take_outside.field-0.0
          (takes_whole_word c.args.self.now c.put_word.new.self c.args.left.now c.word_front-n.result _ c.requires.mode (c.is_empty.ensures.0 c.if-not-is_empty.false) some inside
          c.word_front-n.ensures.word (c.word_front-n.ensures.longest inside) c.in_ok-put_word.ensures stopped))
    ])

pub returns : goal.returns
returns c =
    let some = some_front is_word_byte c.args.left.now c.word_front-n.result c.word_front-n.ensures.longest c.requires.some c.requires.word in
    let inside : c.word_front-n.result < length c.args.left.now = omega (arith, c.word_front-n.ensures.bound, c.if-n-left.false) in
    let within : c.word_front-n.result + 1 ≤ length c.args.left.now = omega (arith, inside) in (
      omega arith,
      within,
      front_made c.args.left.now (c.word_front-n.result + 1) c.args.self.now _ within (subst HasDigit (sym c.requires.mode) tt)
          (takes_whole_word c.args.self.now c.put_word.new.self c.args.left.now c.word_front-n.result _ c.requires.mode (c.is_empty.ensures.0 c.if-not-is_empty.false) some inside
          c.word_front-n.ensures.word (c.word_front-n.ensures.longest inside) c.in_ok-put_word.ensures c.in_ok-take_outside.ensures),
    )
