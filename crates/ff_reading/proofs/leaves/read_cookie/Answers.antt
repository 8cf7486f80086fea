use Rattle.std.proofs.Common.{rules, refl}
use Rattle.ff_forms.specs.Grammar.{a_cookie}
use Rattle.ff_reading.proofs.Shaped.{list_given, no_list_refused}
use Rattle.ff_reading.proofs.leaves.read_cookie.Goals as goal

pub returns-in_err-at : goal.returns-in_err-at
returns-in_err-at c = rw (no_list_refused c.args.item.now c.in_err-at.field-0.0 a_cookie (λ at. refl) refl refl c.in_err-at.ensures.other) (search rules)

pub returns : goal.returns
returns c = list_given c.args.item.now c.in_ok-at.at c.in_ok-at.parts.now a_cookie c.read_cookie_list.result c.in_ok-at.ensures.list c.read_cookie_list.ensures
