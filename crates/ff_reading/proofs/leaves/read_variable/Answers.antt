use Rattle.std.proofs.Common.{rules, refl}
use Rattle.ff_forms.specs.Grammar.{a_variable}
use Rattle.ff_reading.proofs.Shaped.{word_given, no_word_refused}
use Rattle.ff_reading.proofs.leaves.read_variable.Goals as goal

pub returns-in_err-at : goal.returns-in_err-at
returns-in_err-at c = rw (no_word_refused c.args.item.now c.in_err-at.field-0.0 a_variable (λ at. refl) refl refl c.in_err-at.ensures.other) (search rules)

pub returns : goal.returns
returns c = word_given c.args.item.now c.in_ok-at.at c.in_ok-at.word.now a_variable c.read_variable_word.result c.in_ok-at.ensures.word c.read_variable_word.ensures
