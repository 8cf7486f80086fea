use Rattle.std.proofs.Common.{sym, ◌∙◌}
use Rattle.ff_reading.proofs.Seen.{repeated, is_new}
use Rattle.ff_reading.proofs.leaves.read_parameter_word.Goals as goal

pub returns-then-has : goal.returns-then-has
returns-then-has c = repeated c.args.at c.args.word.now c.in_ok-name.name c.args.before.now c.in_ok-name.ensures (sym c.has.ensures ∙ c.if-has.true)

pub returns-else-has : goal.returns-else-has
returns-else-has c = is_new c.args.at c.args.word.now c.in_ok-name.name c.args.before.now c.in_ok-name.ensures (sym c.has.ensures ∙ c.if-has.false)
