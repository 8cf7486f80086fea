use Rattle.std.proofs.Common.{rules, refl}
use Rattle.ff_forms.specs.Grammar.{one_parameter}
use Rattle.ff_reading.proofs.Shaped.{list_given, no_list_refused}
use Rattle.ff_reading.proofs.leaves.read_one_parameter.Goals as goal

pub returns-in_err-at : goal.returns-in_err-at
returns-in_err-at c = rw (no_list_refused c.args.item.now c.in_err-at.field-0.0 one_parameter (λ at. refl) refl refl c.in_err-at.ensures.other) (search rules)

pub returns : goal.returns
returns c = list_given c.args.item.now c.in_ok-at.at c.in_ok-at.parts.now one_parameter c.read_the_parameter.result c.in_ok-at.ensures.list c.read_the_parameter.ensures
