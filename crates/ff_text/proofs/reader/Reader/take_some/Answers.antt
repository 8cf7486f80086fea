use Rattle.std.proofs.Common.{◌∙◌, ◌≤◌, length, arith, inl, inr}
use Rattle.ff_text.proofs.Runs.{some_err, front_made, takes_one, takes_blank, stops_one}
use Rattle.ff_text.proofs.reader.Reader.take_some.Goals as goal

pub returns-in-Between : goal.returns-in-Between
returns-in-Between c =
    let within : 1 ≤ length c.args.left.now = omega (arith, c.requires.some) in
    (omega arith, within, front_made c.args.left.now 1 c.args.self.now _ within c.requires.digit (takes_blank c.args.left.now c.args.self.now c.in-Between.is c.requires.some c.if-left-eq32.true))

pub returns-in_err-take-in_default : goal.returns-in_err-take-in_default
returns-in_err-take-in_default c =
    some_err c.from_residual.result c.args.self.now c.take.new.self c.args.left.now c.in_err-take-in_default.field-0.0 c.from_residual.ensures.1
    (elim c.in_err-take-in_default.ensures [
      | inl memory ↦ inl memory
      | inr stopped ↦ inr (stops_one c.args.left.now c.args.self.now c.in_err-take-in_default.field-0.0 c.requires.some stopped)
    ])

pub returns-in_ok-take-in_default : goal.returns-in_ok-take-in_default
returns-in_ok-take-in_default c =
    let within : 1 ≤ length c.args.left.now = omega (arith, c.requires.some) in
    (omega arith, within, front_made c.args.left.now 1 c.args.self.now _ within c.requires.digit (takes_one c.args.left.now c.args.self.now c.requires.some ∙ c.in_ok-take-in_default.ensures))
