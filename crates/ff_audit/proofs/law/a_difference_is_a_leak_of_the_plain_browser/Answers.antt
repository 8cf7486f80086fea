use Rattle.std.proofs.Common.{sym, ◌∙◌}
use Rattle.ff_audit.proofs.Verdicts.{found_equal, found_other}
use Rattle.ff_audit.specs.Audited.{plain_lines, multi_lines}
use Rattle.ff_audit.proofs.Witness.{multi_is_plain_seen, plain_where_same, seen_again, seen_inputs, none_found}
use Rattle.ff_audit.proofs.law.a_difference_is_a_leak_of_the_plain_browser.Goals as goal

pub returns-clause-seen : goal.returns-clause-seen
returns-clause-seen c = λ p is l valid ok within. multi_is_plain_seen p valid l within is ok

pub returns-clause-found : goal.returns-clause-found
returns-clause-found c = λ p is l valid ok within some. record {
  within = within;
  inputs = seen_inputs p valid l within is ok;
  alike = seen_again p valid l within is ok;
  other = λ same. found_other (plain_lines p is l) (multi_lines p is l) some (same ∙ sym (multi_is_plain_seen p valid l within is ok));
}

pub returns-clause-clean : goal.returns-clause-clean
returns-clause-clean c = λ p is l valid ok within. (
  λ none. found_equal (plain_lines p is l) (multi_lines p is l) none ∙ multi_is_plain_seen p valid l within is ok,
  λ same. none_found p valid l within is ok same,
)

pub returns-clause-precise : goal.returns-clause-precise
returns-clause-precise c = λ p is l valid ok within same. none_found p valid l within is ok (plain_where_same p valid l within is ok same)
