use Rattle.serde_json.specs.View.{view}
use Rattle.ff_policy.proofs.Reread.{text_is, written_utf8, written_again, written_line}
use Rattle.ff_policy.proofs.policy.Policy.text.Goals as goal

pub returns-clause-text : goal.returns-clause-text
returns-clause-text c = text_is c.args.self.now (view c.in_ok-value.value) c.in_ok-to_vec.field-0.items c.in_ok-value.ensures.value c.in_ok-to_vec.ensures.text

pub returns-clause-again : goal.returns-clause-again
returns-clause-again c =
    written_again c.args.self.now (view c.in_ok-value.value) c.in_ok-to_vec.field-0.items c.in_ok-value.ensures.value c.in_ok-to_vec.ensures.text c.to_value.ensures.valid c.in_ok-to_vec.ensures.utf8 c.in_ok-to_vec.ensures.reads_back

pub returns-clause-line : goal.returns-clause-line
returns-clause-line c =
    written_line c.args.self.now (view c.in_ok-value.value) c.in_ok-to_vec.field-0.items c.in_ok-value.ensures.value c.in_ok-to_vec.ensures.text c.to_value.ensures.valid c.in_ok-to_vec.ensures.utf8 c.in_ok-to_vec.ensures.reads_back

pub returns-clause-utf8 : goal.returns-clause-utf8
returns-clause-utf8 c = written_utf8 c.args.self.now (view c.in_ok-value.value) c.in_ok-to_vec.field-0.items c.in_ok-value.ensures.value c.in_ok-to_vec.ensures.text c.in_ok-to_vec.ensures.utf8
