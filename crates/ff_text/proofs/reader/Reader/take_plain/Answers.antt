use Rattle.std.proofs.Common.{rules, sym, subst}
use Rattle.ff_text.specs.Bytes.{is_plain_byte}
use Rattle.ff_text.specs.Machine.{HasDigit}
use Rattle.ff_text.proofs.Runs.{some_front, front_made, takes_plain}
use Rattle.ff_text.proofs.reader.Reader.take_plain.Goals as goal

pub returns : goal.returns
returns c =
    let put = rw c.if-is_err.false at c.is_err.ensures.value in
    let added = c.extend.ensures in (
      some_front is_plain_byte c.args.left.now c.plain_front-n.result c.plain_front-n.ensures.longest c.requires.some c.requires.plain,
      c.plain_front-n.ensures.bound,
      front_made c.args.left.now c.plain_front-n.result c.args.self.now _ c.plain_front-n.ensures.bound (subst HasDigit (sym c.requires.mode.1) tt)
          (takes_plain c.args.self.now c.args.left.now c.extend.new.self c.requires.mode.0 c.plain_front-n.result c.requires.mode.1 c.plain_front-n.ensures.bound c.plain_front-n.ensures.plain
          (search rules)),
    )
