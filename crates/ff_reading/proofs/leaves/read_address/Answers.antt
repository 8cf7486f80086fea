use Rattle.std.proofs.Common.{rules, refl}
use Rattle.ff_forms.specs.Grammar.{an_address}
use Rattle.ff_reading.proofs.Shaped.{word_given, no_word_refused}
use Rattle.ff_reading.proofs.leaves.read_address.Goals as goal

pub returns-in_err-at : goal.returns-in_err-at
returns-in_err-at c = rw (no_word_refused c.args.item.now c.in_err-at.field-0.0 an_address (λ at. refl) refl refl c.in_err-at.ensures.other) (search rules)

pub returns : goal.returns
returns c = word_given c.args.item.now c.in_ok-at.at c.in_ok-at.word.now an_address c.read_address_word.result c.in_ok-at.ensures.word c.read_address_word.ensures
