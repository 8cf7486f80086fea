use Rattle.std.proofs.Common.{◌<◌, ◌≤◌, ◌≡◌, ◌∙◌, ◌+◌, ◌-◌, true, Ok, length, get_or, take, drop, arith, sym, subst, inl, inr}
use Rattle.std.specs.List.{list_all}
use Rattle.std.proofs.lemmas.List.{length-drop}
use Rattle.ff_text.specs.Bytes.{is_plain_byte}
use Rattle.ff_text.specs.Machine.{Makes, HasDigit, string_put}
use Rattle.ff_text.proofs.Runs.{some_err, front_made, takes_outside, takes_string, stops_some, rest_all}
use Rattle.ff_text.proofs.reader.Reader.take_string.Goals as goal

pub returns-in_err-take_outside : goal.returns-in_err-take_outside
returns-in_err-take_outside c =
    some_err c.from_residual.result c.args.self.now c.take_outside.new.self c.args.left.now c.in_err-take_outside.field-0.0 c.from_residual.ensures.1
    (elim c.in_err-take_outside.ensures [
      | inl memory ↦ inl memory
      | inr stopped ↦ inr (stops_some c.args.left.now 1 c.args.self.now c.in_err-take_outside.field-0.0 (takes_outside c.args.left.now c.args.self.now c.requires.mode c.requires.some ∙ stopped))
    ])

pub returns-then-n-rest : goal.returns-then-n-rest
returns-then-n-rest c =
    let within : 1 ≤ length c.args.left.now = omega (arith, c.requires.some) in
    (omega arith, within, front_made c.args.left.now 1 c.args.self.now _ within (subst HasDigit (sym c.requires.mode) tt) (takes_outside c.args.left.now c.args.self.now c.requires.mode c.requires.some ∙ c.in_ok-take_outside.ensures))

pub returns-in_err-put_string : goal.returns-in_err-put_string
returns-in_err-put_string c =
    let n = c.plain_front-n.result in
    let left = c.args.left.now in
    let rest = take (length left - 1) (drop 1 left) in
    let all : rest ≡ drop 1 left = rest_all left in
    let bound : n ≤ length rest = c.plain_front-n.ensures.bound in
    let inside : n < length rest = omega (arith, bound, c.if-n-rest.false) in
    let plain : list_all is_plain_byte (take n rest) ≡ true = c.plain_front-n.ensures.plain in
    let mark : get_or rest n 0 ≡ 34 = c.if-rest-n-ne34.false in
    let put : Makes c.put_string.result c.put_string.new.self (string_put c.args.self.now (take n rest)) = c.put_string.ensures in
    some_err c.from_residual-in_err-put_string.result c.args.self.now c.put_string.new.self left c.in_err-put_string.field-0.0 c.from_residual-in_err-put_string.ensures.1
    (elim c.in_err-put_string.ensures [
      | inl memory ↦ inl memory
      | inr stopped ↦ inr (stops_some left (n + 2) c.args.self.now c.in_err-put_string.field-0.0
          (takes_string c.args.self.now left n c.requires.mode (c.is_empty.ensures.0 c.if-not-is_empty.false) c.requires.some c.requires.mark (rw all at inside) (rw all at plain) (rw all at mark) ∙ rw all at stopped))
    ])

pub returns : goal.returns
returns c =
    let n = c.plain_front-n.result in
    let left = c.args.left.now in
    let rest = take (length left - 1) (drop 1 left) in
    let all : rest ≡ drop 1 left = rest_all left in
    let bound : n ≤ length rest = c.plain_front-n.ensures.bound in
    let inside : n < length (drop 1 left) = rw all at (let inside : n < length rest = omega (arith, bound, c.if-n-rest.false) in inside) in
    let plain : list_all is_plain_byte (take n rest) ≡ true = c.plain_front-n.ensures.plain in
    let mark : get_or rest n 0 ≡ 34 = c.if-rest-n-ne34.false in
    let put : string_put c.args.self.now (take n rest) ≡ Ok c.put_string.new.self = c.in_ok-put_string.ensures in
    let size = length-drop 1 left in
    let within : n + 2 ≤ length left = omega (arith, inside, size) in (
      omega arith,
      within,
      front_made left (n + 2) c.args.self.now _ within (subst HasDigit (sym c.requires.mode) tt)
          (takes_string c.args.self.now left n c.requires.mode (c.is_empty.ensures.0 c.if-not-is_empty.false) c.requires.some c.requires.mark inside (rw all at plain) (rw all at mark) ∙ rw all at put),
    )
