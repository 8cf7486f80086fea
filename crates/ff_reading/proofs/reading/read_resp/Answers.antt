use Rattle.std.proofs.Common.{rules, refl}
use Rattle.ff_forms.specs.Grammar.{a_response}
use Rattle.ff_reading.proofs.Shaped.{list_given, no_list_refused}
use Rattle.ff_reading.proofs.reading.read_resp.Goals as goal

pub returns-in_err-at : goal.returns-in_err-at
returns-in_err-at c = rw (no_list_refused c.args.item.now c.in_err-at.field-0.0 a_response (λ at. refl) refl refl c.in_err-at.ensures.other) (search rules)

pub returns : goal.returns
returns c = list_given c.args.item.now c.in_ok-at.at c.in_ok-at.parts.now a_response c.read_resp_list.result c.in_ok-at.ensures.list c.read_resp_list.ensures
