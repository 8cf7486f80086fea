use Rattle.std.proofs.Common.{rules, refl}
use Rattle.ff_forms.specs.Grammar.{parameters}
use Rattle.ff_reading.proofs.Shaped.{list_given, no_list_refused}
use Rattle.ff_reading.proofs.leaves.read_parameters.Goals as goal

pub returns-in_err-parts : goal.returns-in_err-parts
returns-in_err-parts c = rw (no_list_refused c.args.item.now c.in_err-parts.field-0.0 parameters (λ at. refl) refl refl c.in_err-parts.ensures.other) (search rules)

pub returns : goal.returns
returns c = list_given c.args.item.now _ c.in_ok-parts.parts.now parameters c.read_each_parameter.result c.in_ok-parts.ensures.list c.read_each_parameter.ensures
